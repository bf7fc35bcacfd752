-- Damaged frames leave no trace: one stretch, then any number. Assumes nothing.
use mathlib.Core.Path.{◌≡◌, refl, ap, sym, ◌∙◌, subst, subst⁻¹}
use mathlib.Core.Bool.{Bool, true, false, cond}
use mathlib.Core.List.{List, [], ◌∷◌, ◌++◌, append-nil}
use Prim.Native.Nat.{ℕ, ◌≤◌}
use native.Mathlib.Omega.{arith}
use Rattle.bits.proofs.Tests.{never, neither}
use Rattle.receive_rules.specs.Reading.{readable}
use Rattle.receive_rules.specs.Early.{early_flag, told_flag}
use Rattle.receive_rules.proofs.Facts.{sound-told}
use Rattle.transmit_rules.specs.Reports.{with_statuses}
use Rattle.card_rules.specs.Adapter.{Adapter}
use Rattle.card_rules.specs.Update.{with_select, with_rx, with_tx}
use Rattle.card_rules.proofs.Active.{woken}
use Rattle.card_rules.specs.Room.{rx_room}
use Rattle.card_rules.specs.Settle.{settle}
use Rattle.card_rules.specs.Sound.{sound}
use Rattle.card_rules.proofs.Sides.{rx_of_lem, settle-stays}
use Rattle.transmit_rules.specs.Leave.{told_of}
use Rattle.transmit_rules.specs.Tx.{ready as transmits}
use Rattle.card_rules.specs.Calls.{on_wire, off_wire}
use Rattle.driver_rules.specs.declared.Driver.{Driver}
use Rattle.runs.specs.Run.{Bench, sound_bench, full, Event, Start, Byte, End, Sent, Collided, Open, Send, Service, Said, told, refused, wire, refusing, next, said, after, sayings, since}
use Rattle.runs.proofs.Kept.{adapter_of, next-sound, after-sound, since-sound}
use Rattle.runs.proofs.Append.{after-append, sayings-append}
use Rattle.runs.proofs.Opened.{Opened, opens-set, opens-driver, keeps_open, keeps_all}
use Rattle.no_trace.specs.Stretch.{answers_idle, heard, calls, gives_code, Stretch, begun, whole_frame, closing, quiet, Damaged, Part, event, stretch, with_frames, without_frames, AllDamaged}
use Rattle.no_trace.specs.NoTrace.{handed_up, SameAnswers, DamagedFramesLeaveNoTrace}
use Rattle.no_trace.proofs.Shapes.{calm, Settled}
use Rattle.no_trace.proofs.Noise.{bench, start_beside, end_silent, all_beside}
use Rattle.no_trace.proofs.Closing.{Closes, closes-after}
use Rattle.no_trace.proofs.Rest.{Calm, served-calm}

-- ---- an open bench at rest, by its shape

module _ (a : Adapter) (s : sound a ≡ true) where
  settled : Settled a
  unfolding settle
  settled = ap (λ (x : Adapter). x.tx.reports.sender.available) (settle-stays a s)

  module _ (e : a.rx.frames ≡ []) where
    -- of an empty store nothing is read, and RX Early was not set for it
    unread : a.rx.receiver.read ≡ 0
    unfolding readable
    unread =
        let r = (sound-told (rx_room a) a.rx (rx_of_lem a s)).0.read in
        let z : readable a.rx.frames ≡ 0 = rw e in
        omega arith

    not_early : a.rx.receiver.early ≡ false
    unfolding settle early_flag
    not_early = sym (ap (λ (x : Adapter). x.rx.receiver.early) (settle-stays a s)) ∙ ap (early_flag a.rx.receiver) e

    not-told : a.rx.receiver.told ≡ false
    unfolding settle told_flag
    not-told = sym (ap (λ (x : Adapter). x.rx.receiver.told) (settle-stays a s)) ∙ ap (told_flag a.rx.receiver) e

at_rest : (b : Bench) → sound b.adapter ≡ true → Opened b → Calm b.adapter → b.adapter.rx.frames ≡ [] → b.adapter.rx.receiver.wire ≡ 0 →
    b ≡ bench (calm b.adapter) b.driver
at_rest b s o c e w =
    let a = b.adapter in
    let f = neither a.rx.receiver.failed a.tx.queue.failed c.failed in
    λ i.
    record {
      adapter =
          woken (c.active i) (with_select (o.set.is c.active i) (with_rx
          (record {
            receiver =
                record { on = a.rx.receiver.on; failed = f.0 i; early = not_early a s e i; told = not-told a s e i; threshold = a.rx.receiver.threshold; read = unread a s e i; wire = w i };
            frames = e i;
          }) (with_tx
          (record {
            queue = record { failed = f.1 i; packets = a.tx.queue.packets; part = a.tx.queue.part };
            reports = with_statuses (c.statuses i) a.tx.reports;
          }) a)));
      driver = record { opened = o.driver i; sent = b.driver.sent; unreported = b.driver.unreported; error = b.driver.error };
    }

-- ---- one stretch

record Gone (d : Stretch) (b : Bench) : Type 0 where
  says : sayings (whole_frame d) b ≡ sayings (calls d.during) b
  nothing : handed_up (sayings (whole_frame d) b) ≡ []
  closes : Closes d.budget d.areas (after (whole_frame d) b) (quiet d b)

calm-gone : (d : Stretch) (s : Adapter) (e : Driver) → Settled s → gives_code d.check d.alignment (after (begun d) (bench (calm s) e)).adapter ≡ true → full d.areas ≡ true → 5 ≤ d.budget →
    Gone d (bench (calm s) e)
unfolding after sayings said
calm-gone d s e h g f m =
    let b = bench (calm s) e in
    let last = End d.check d.alignment in
    let x = next (Start d.first d.eight) b in
    let r = all_beside d.during (start_beside d.first d.eight s e h) in
    let ending : sayings (heard d.during ++ (last ∷ [])) x ≡ sayings (heard d.during) x =
    sayings-append (heard d.during) (last ∷ []) x ∙ ap (λ (xs : List Said). sayings (heard d.during) x ++ (xs ++ [])) (end_silent d.check d.alignment r.beside) ∙ append-nil (sayings (heard d.during) x) in
    record {
      says = ending ∙ r.says;
      nothing = ap handed_up ending ∙ r.nothing;
      closes =
          subst⁻¹ (λ (z : Bench). Closes d.budget d.areas z (quiet d b)) (after-append (heard d.during) (last ∷ []) x)
          (closes-after d.check d.alignment d.budget d.areas r.beside g f m);
    }

gone : (d : Stretch) (just : Bool) (b : Bench) → sound b.adapter ≡ true → Opened b → (just ≡ true → Calm b.adapter) → Damaged d just b → Gone d b
gone d just b s o c g =
    let e = at_rest b s o (c g.rest.answered_idle) g.rest.none_stored g.rest.none_on_wire in
    subst⁻¹ (Gone d) e
    (calm-gone d b.adapter b.driver (settled b.adapter s)
    (subst (λ (x : Bench). gives_code d.check d.alignment (after (begun d) x).adapter ≡ true) e g.code) g.areas g.budget)

-- ---- any number of stretches

-- a refusal, and what a success tells, are not idle
refusal_busy : {P : Type 0} (ok : Bool) → answers_idle (refusing ok) ≡ true → P
refusal_busy true e = never e
refusal_busy false e = never e

told_busy : {P : Type 0} (ok : Bool) (bytes : List ℕ) → answers_idle (cond ok (told bytes) (refused 11) ∷ []) ≡ true → P
told_busy true bytes e = never e
told_busy false bytes e = never e

-- an event that answers idle is a service, and leaves the card calm
calm-after : (e : Event) (b : Bench) → Opened b → answers_idle (said e b) ≡ true → Calm (next e b).adapter
unfolding said
calm-after (Service n r) b o i = served-calm n r b o.set i
calm-after (Open w₀ w₁ w₂) b o i = never i
calm-after (Send packet) b o i = never i
calm-after (Start first eight) b o i = refusal_busy (off_wire (wire b)) i
calm-after (Byte v) b o i = refusal_busy (on_wire (wire b)) i
calm-after (End c l) b o i = refusal_busy (on_wire (wire b)) i
calm-after Sent b o i = told_busy (transmits b.adapter.tx) (told_of b.adapter.tx.queue.packets) i
calm-after Collided b o i = refusal_busy (transmits b.adapter.tx) i

-- what a run carries along: soundness, open's masks, and rest after an idle answer
record Carried (just : Bool) (b : Bench) : Type 0 where
  sound : sound_bench b ≡ true
  opened : Opened b
  calms : just ≡ true → Calm b.adapter

carried_on : (e : Event) (b : Bench) → sound_bench b ≡ true → Opened b → Carried (answers_idle (said e b)) (next e b)
carried_on e b s o = record { sound = next-sound e b s; opened = keeps_open e b o; calms = calm-after e b o }

-- The two runs from the same bench answer the same.
same-answers : (ps : List Part) (just : Bool) (b : Bench) → Carried just b → AllDamaged ps just b → SameAnswers ps b b
unfolding SameAnswers AllDamaged
same-answers [] just b c h = refl
same-answers (event e ∷ ps) just b c h = (refl, same-answers ps _ (next e b) (carried_on e b c.sound c.opened) h)
same-answers (stretch d ∷ ps) just b c (g, h) =
    let t = gone d just b (adapter_of b c.sound) c.opened c.calms g in
    let q = quiet d b in
    let on = carried_on (closing d) q (after-sound (calls d.during) b c.sound) (keeps_all (calls d.during) b c.opened) in (
      t.says,
      (
        t.nothing,
        (
          t.closes.answers,
          subst⁻¹ (λ (x : Bench). SameAnswers ps x (next (closing d) q)) t.closes.same (same-answers ps _ (next (closing d) q) on h),
        ),
      ),
    )

-- .. and so the states at the end are equal.
ends_equal : (ps : List Part) (x y : Bench) → SameAnswers ps x y → after (with_frames ps) x ≡ after (without_frames ps) y
unfolding SameAnswers after with_frames without_frames
ends_equal [] x y e = e
ends_equal (event e ∷ ps) x y h = ends_equal ps (next e x) (next e y) h.1
ends_equal (stretch d ∷ ps) x y h =
    after-append (whole_frame d) (closing d ∷ with_frames ps) x
    ∙ ends_equal ps (next (closing d) (after (whole_frame d) x)) (next (closing d) (quiet d y)) h.1.1.1
    ∙ sym (after-append (calls d.during) (closing d ∷ without_frames ps) y)

pub no_trace : DamagedFramesLeaveNoTrace
no_trace b s history w₀ w₁ w₂ ps h =
    let x = since history b in
    let o = next (Open w₀ w₁ w₂) x in
    let c : Carried false o = record { sound = next-sound (Open w₀ w₁ w₂) x (since-sound history b s); opened = record { set = opens-set w₀ w₁ w₂ x; driver = opens-driver w₀ w₁ w₂ x }; calms = λ e. never e } in
    let a = same-answers ps false o c h in
    record { answers = a; end = ends_equal ps o o a }
