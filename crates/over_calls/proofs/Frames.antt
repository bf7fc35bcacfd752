-- The calls take the steps of a run, and of every run it is proved. Assumes nothing.
use mathlib.Core.Path.{◌≡◌, ap, sym, ◌∙◌, subst, subst⁻¹}
use mathlib.Core.List.{List, [], ◌∷◌, ◌++◌}
use Rattle.card_rules.specs.View.{view}
use Rattle.runs.specs.Run.{Event, Open, after, since, next, Said, sayings}
use Rattle.runs.proofs.Append.{sayings-append}
use Rattle.frames_carried.specs.Reads.{host_reads}
use Rattle.frames_carried.specs.Brings.{stored, good}
use Rattle.frames_carried.specs.Carried.{Unread, AfterOpen, after_open, Call, services, Enough, good_among}
use Rattle.frames_carried.proofs.Events.{as_they_came}
use Rattle.frames_carried.proofs.Memory.{stores_are_such_lem}
use Rattle.frames_carried.proofs.NoneLeft.{nothing_left, good_frame_is}
use Rattle.run_calls.specs.Takes.{State, seen, Good, Calls, none, then}
use Rattle.run_calls.proofs.All.{take_the_steps}
use Rattle.over_calls.specs.Frames.{UnreadState, Opened, opened, FramesOverCalls}
use Rattle.over_calls.proofs.Over.{bridge}

unread : (s : State) → UnreadState s → Unread (seen s)
unfolding view
unread s u = record { none_read = u.none_read; no_failure = u.no_failure; held = stores_are_such_lem.in_memory s.card s.ram s.dir u.bytes u.words }

-- what is seen of a state that calls reach, an open among them
record Reached (s : State) : Type 0 where
  good : Good s
  open_seen : AfterOpen (seen s)

reached : (s : State) → Opened s → Reached s
unfolding after
reached s (opened s₀ s₁ s₂ u g history before w₀ w₁ w₂ opening called es says calls) =
    let p = take_the_steps.any_calls_before history s₀ s₁ g before in
    let q = take_the_steps.any_calls (Open w₀ w₁ w₂ ∷ []) s₁ s₂ (opening ++ []) p.good (then s₁ s₂ s₂ (Open w₀ w₁ w₂) [] opening [] called (none s₂)) in
    let r = take_the_steps.any_calls es s₂ s says q.good calls in
    let e : seen s ≡ after es (next (Open w₀ w₁ w₂) (since history (seen s₀))) = r.leaves ∙ ap (after es) (q.leaves ∙ ap (next (Open w₀ w₁ w₂)) p.leaves) in
    record { good = r.good; open_seen = subst⁻¹ AfterOpen e (after_open (seen s₀) (bridge s₀ g) history w₀ w₁ w₂ es) }

-- calls, and then service calls
module _ (s t u : State) (g : Good s) (es : List Event) (says : List Said) (calls : Calls s es t says) (cs : List Call) (h : Enough cs (seen t)) (more : List Said) (last : Calls t (services cs) u more) where
  all_said : says ++ more ≡ sayings (es ++ services cs) (seen s)
  all_said =
      let x = take_the_steps.any_calls es s t says g calls in
      let y = take_the_steps.any_calls (services cs) t u more x.good last in
      (λ i. x.answers i ++ (y.answers ∙ ap (sayings (services cs)) x.leaves) i) ∙ sym (sayings-append es (services cs) (seen s))

  enough : Enough cs (after es (seen s))
  enough = subst (Enough cs) (take_the_steps.any_calls es s t says g calls).leaves h

pub frames_over_calls_lem : FramesOverCalls
frames_over_calls_lem =
    record {
      nothing_else = λ s t g u es o says calls.
          let x = take_the_steps.any_calls es s t says g calls in
          (as_they_came (seen s) (bridge s g) (unread s u) es o).as_they_came
          ∙ λ i. host_reads (sym x.answers i) ++ good (stored (sym x.leaves i));
      nothing_left = λ s t u a un es o says calls cs h more last.
          let r = reached s a in
          ap host_reads (all_said s t u r.good es says calls cs h more last)
          ∙ nothing_left (seen s) r.open_seen (unread s un) es o cs (enough s t u r.good es says calls cs h more last);
      good_frame_is = λ s t u a un first eight es k o f says calls cs h more last.
          let r = reached s a in
          ap host_reads (all_said s t u r.good (good_among first eight es) says calls cs h more last)
          ∙ good_frame_is (seen s) r.open_seen (unread s un) first eight es k o f cs (enough s t u r.good (good_among first eight es) says calls cs h more last);
    }
