-- The composition. Assumes nothing.
use mathlib.Core.Path.{◌≡◌, ap, sym, ◌∙◌, subst, subst⁻¹}
use mathlib.Core.Bool.{true, false}
use mathlib.Core.List.{[], ◌∷◌, ◌++◌}
use Rattle.bits.proofs.Tests.{join}
use Rattle.card_rules.specs.View.{view}
use Rattle.card_rules.specs.Sound.{sound}
use Rattle.driver_rules.specs.Driver.{driver_sound}
use Rattle.runs.specs.Run.{sound_bench, Open, after, since, next}
use Rattle.no_trace.specs.Stretch.{AllDamaged, with_frames, without_frames}
use Rattle.no_trace.specs.NoTrace.{NoTrace}
use Rattle.no_trace.proofs.Trace.{no_trace}
use Rattle.run_calls.specs.Takes.{State, seen, Good, none, then}
use Rattle.run_calls.proofs.Good.{sound_of, driver_of_lem}
use Rattle.run_calls.proofs.All.{take_the_steps}
use Rattle.over_calls.specs.Over.{NoTraceOverCalls}

pub bridge : (s : State) → Good s → sound_bench (seen s) ≡ true
bridge s g = join (sound (view s.card s.ram s.dir)) (driver_sound s.driver) (sound_of s g).calm (driver_of_lem s g)

pub over_calls_lem : NoTraceOverCalls
unfolding after
over_calls_lem s₀ s₁ s t t' g history before w₀ w₁ w₂ opening called ps damaged says says' with_frames_is without_frames_is =
    let p = take_the_steps.any_calls_before history s₀ s₁ g before in
    let o = take_the_steps.any_calls (Open w₀ w₁ w₂ ∷ []) s₁ s (opening ++ []) p.good (then s₁ s s (Open w₀ w₁ w₂) [] opening [] called (none s)) in
    let e : seen s ≡ next (Open w₀ w₁ w₂) (since history (seen s₀)) = o.leaves ∙ ap (next (Open w₀ w₁ w₂)) p.leaves in
    let n : NoTrace ps (seen s) =
    subst⁻¹ (NoTrace ps) e (no_trace (seen s₀) (bridge s₀ g) history w₀ w₁ w₂ ps (subst (AllDamaged ps false) e damaged)) in
    let x = take_the_steps.any_calls (with_frames ps) s t says o.good with_frames_is in
    let y = take_the_steps.any_calls (without_frames ps) s t' says' o.good without_frames_is in
    record {
      with_frames_is = x.answers;
      without_frames_is = y.answers;
      no_trace = n;
      ends = x.leaves ∙ n.end ∙ sym y.leaves;
    }
