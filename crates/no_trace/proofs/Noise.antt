-- While a damaged frame comes: the run with the frame beside the run without, step by step. Assumes nothing.
use Rattle.std.specs.Prelude.{Err}
use mathlib.Core.Path.{◌≡◌, refl, ap, ap₂, ◌∙◌, subst⁻¹}
use mathlib.Core.Bool.{Bool, true, false, cond, not, ◌&&◌, ◌||◌}
use mathlib.Core.List.{List, [], ◌∷◌, ◌++◌}
use Prim.Native.Nat.{ℕ, zero, suc}
use lib.ListN.{length}
use lib.Dec.{leb}
use Rattle.refusal.specs.declared.Refusal.TheVariants.{AreaShort}
use Rattle.store.specs.Store.{at_newest}
use Rattle.receive_rules.specs.Frame.{coming, overran}
use Rattle.receive_rules.specs.Wire as wire
use Rattle.receive_rules.specs.Wire.{begins, marked, fits, fits8}
use Rattle.card_rules.specs.Adapter.{Adapter}
use Rattle.card_rules.specs.Room.{rx_room}
use Rattle.card_rules.specs.Update.{with_rx}
use Rattle.card_rules.specs.Settle.{settle}
use Rattle.card_rules.specs.Event as card
use Rattle.driver_rules.specs.declared.Driver.{Driver}
use Rattle.driver_rules.specs.Talk.{done, Ran, run}
use Rattle.driver_rules.specs.Items.{Serving, plain}
use Rattle.driver_rules.specs.Service.{look_talk}
use Rattle.driver_rules.specs.Calls.{service_call}
use Rattle.runs.specs.Run.{Bench, Areas, full, Start, Byte, End, Said, serves, serving, next, said, after, sayings}
use Rattle.no_trace.specs.Stretch.{During, byte, call, heard, calls}
use Rattle.no_trace.specs.NoTrace.{handed_up}
use Rattle.no_trace.proofs.Shapes.{side, frame, calm, deaf, hearing, Settled, settle-empty, settle-coming, reached, quiet_calm, quiet_deaf, quiet_hearing, settled_hearing, acked, ack_deaf, ack_hearing, acked_settled, look-short, look-idle, calm-idle}

-- an open driver
abbrev pub ready : Driver → Driver
ready d = record { opened = true; sent = d.sent; unreported = d.unreported; error = d.error }

abbrev pub bench : Adapter → Driver → Bench
bench a d = record { adapter = a; driver = ready d }

-- The bench of the run with the frame, while the frame comes, and that of the run without: the card ignores the frame, or stores it.
pub data Beside : Bench → Bench → Type 0 where
  deafly : (s : Adapter) (d : Driver) → Settled s → Beside (bench (deaf s) d) (bench (calm s) d)
  hearingly : (s : Adapter) (d : Driver) → Settled s → (e t : Bool) (bs : List ℕ) (o : Bool) → Beside (bench (hearing s e t bs o) d) (bench (calm s) d)

-- ---- the start and the bytes

pub start_beside : (first : List ℕ) (eight : length first ≡ 8) (s : Adapter) (d : Driver) → Settled s → Beside (next (Start first eight) (bench (calm s) d)) (bench (calm s) d)
unfolding next card.wire_start wire.wire_start begins
start_beside first eight s d h = go (card.taken first (calm s) && (s.rx.receiver.on && fits8 (rx_room s) []))
  where
    go : (b : Bool) → Beside (bench (settle (with_rx (begins b first (side s false false 0 [])) (calm s))) d) (bench (calm s) d)
    go true =
        subst⁻¹ (λ (a : Adapter). Beside (bench a d) (bench (calm s) d)) (settle-coming s h false false 2 first false)
        (hearingly s d h (reached s false first || false) (reached s false first || false) first false)
    go false = subst⁻¹ (λ (a : Adapter). Beside (bench a d) (bench (calm s) d)) (settle-empty s h false false 1) (deafly s d h)

byte_hearing : (v : ℕ) (s : Adapter) (d : Driver) → Settled s → (e t : Bool) (bs : List ℕ) (o : Bool) → Beside (next (Byte v) (bench (hearing s e t bs o) d)) (bench (calm s) d)
unfolding next card.wire_byte wire.wire_byte at_newest overran marked
byte_hearing v s d h e t bs o =
    let room : Bool = fits (rx_room s) v (frame bs (coming o)) in
    let long : Bool = leb 1792 (length bs) in
    let bs' : List ℕ = cond (o || (long || not room)) bs (bs ++ (v ∷ [])) in
    let o' : Bool = o || (not long && not room) in
    subst⁻¹ (λ (a : Adapter). Beside (bench a d) (bench (calm s) d)) (settle-coming s h e t 2 bs' o')
    (hearingly s d h (reached s t bs' || e) (reached s t bs' || t) bs' o')

byte_deaf : (v : ℕ) (s : Adapter) (d : Driver) → Settled s → Beside (next (Byte v) (bench (deaf s) d)) (bench (calm s) d)
unfolding next card.wire_byte wire.wire_byte
byte_deaf v s d h = subst⁻¹ (λ (a : Adapter). Beside (bench a d) (bench (calm s) d)) (settle-empty s h false false 1) (deafly s d h)

byte_beside : (v : ℕ) {x y : Bench} → Beside x y → Beside (next (Byte v) x) y
byte_beside v (deafly s d h) = byte_deaf v s d h
byte_beside v (hearingly s d h e t bs o) = byte_hearing v s d h e t bs o

-- the wire is taken, and answers nothing
byte_silent : (v : ℕ) {x y : Bench} → Beside x y → said (Byte v) x ≡ []
unfolding said
byte_silent v (deafly s d h) = refl
byte_silent v (hearingly s d h e t bs o) = refl

pub end_silent : (c l : Bool) {x y : Bench} → Beside x y → said (End c l) x ≡ []
unfolding said
end_silent c l (deafly s d h) = refl
end_silent c l (hearingly s d h e t bs o) = refl

-- ---- a service call in between

abbrev bench_of : Ran Serving → Bench
bench_of R = record { adapter = R.adapter; driver = R.answer.driver }

-- two runs of a call that answer the same, hand up nothing, and leave benches side by side
record Both (s : Areas) (R Q : Ran Serving) : Type 0 where
  beside : Beside (bench_of R) (bench_of Q)
  says : serving s R ≡ serving s Q
  nothing : R.answer.bytes ≡ []

by : {s : Areas} {R R' Q Q' : Ran Serving} → R ≡ R' → Q ≡ Q' → Both s R' Q' → Both s R Q
by {s} {R} {R'} {Q} {Q'} e f x = subst⁻¹ (λ (P : Ran Serving). Both s R P) f (subst⁻¹ (λ (P : Ran Serving). Both s P Q') e x)

abbrev Looks : ℕ → Areas → Bench → Bench → Type 0
Looks n s x y = Both s (run (look_talk n x.driver) x.adapter) (run (look_talk n y.driver) y.adapter)

look_none : (r : Areas) {x y : Bench} → Beside x y → Looks 0 r x y
unfolding run look_talk
look_none r (deafly s d h) = record { beside = deafly s d h; says = refl; nothing = refl }
look_none r (hearingly s d h e t bs o) = record { beside = hearingly s d h e t bs o; says = refl; nothing = refl }

look_deaf : (n : ℕ) (r : Areas) (s : Adapter) (d : Driver) → Settled s → Looks (suc n) r (bench (deaf s) d) (bench (calm s) d)
look_deaf zero r s d h =
    by (look-short (ready d) (deaf s) (deaf s) (quiet_deaf s h)) (look-short (ready d) (calm s) (calm s) (quiet_calm s h))
    (record { beside = deafly s d h; says = refl; nothing = refl })
look_deaf (suc n) r s d h =
    by (look-idle n (ready d) (deaf s) (deaf s) (deaf (acked s)) (quiet_deaf s h) (ack_deaf s)) (calm-idle s h (ready d) n)
    (record { beside = deafly (acked s) d (acked_settled s); says = refl; nothing = refl })

look_hearing : (n : ℕ) (r : Areas) (s : Adapter) (d : Driver) → Settled s → (e t : Bool) (bs : List ℕ) (o : Bool) → Looks (suc n) r (bench (hearing s e t bs o) d) (bench (calm s) d)
look_hearing zero r s d h e t bs o =
    by (look-short (ready d) (hearing s e t bs o) (settled_hearing s e t bs o) (quiet_hearing s h e t bs o)) (look-short (ready d) (calm s) (calm s) (quiet_calm s h))
    (record { beside = hearingly s d h (reached s t bs || e) (reached s t bs || t) bs o; says = refl; nothing = refl })
look_hearing (suc n) r s d h e t bs o =
    let e' : Bool = reached s t bs || e in
    let t' : Bool = reached s t bs || t in
    by
    (look-idle n (ready d) (hearing s e t bs o) (settled_hearing s e t bs o) (hearing (acked s) (reached s t' bs || false) (reached s t' bs || t') bs o) (quiet_hearing s h e t bs o)
    (ack_hearing s e' t' bs o))
    (calm-idle s h (ready d) n)
    (record { beside = hearingly (acked s) d (acked_settled s) (reached s t' bs || false) (reached s t' bs || t') bs o; says = refl; nothing = refl })

looks : (n : ℕ) (r : Areas) {x y : Bench} → Beside x y → Looks n r x y
looks zero r x = look_none r x
looks (suc n) r (deafly s d h) = look_deaf n r s d h
looks (suc n) r (hearingly s d h e t bs o) = look_hearing n r s d h e t bs o

-- both drivers are open and the same, so small areas are refused alike
serve-both : (n : ℕ) (r : Areas) {x y : Bench} → Beside x y → Both r (serves n r x) (serves n r y)
unfolding serves service_call run
serve-both n r (deafly s d h) = go (full r)
  where
    go : (b : Bool) →
        Both r (run (cond (not b) (done (plain (Err AreaShort) (ready d))) (look_talk n (ready d))) (deaf s)) (run (cond (not b) (done (plain (Err AreaShort) (ready d))) (look_talk n (ready d))) (calm s))
    go true = looks n r (deafly s d h)
    go false = record { beside = deafly s d h; says = refl; nothing = refl }
serve-both n r (hearingly s d h e t bs o) = go (full r)
  where
    go : (b : Bool) →
        Both r (run (cond (not b) (done (plain (Err AreaShort) (ready d))) (look_talk n (ready d))) (hearing s e t bs o)) (run (cond (not b) (done (plain (Err AreaShort) (ready d))) (look_talk n (ready d))) (calm s))
    go true = looks n r (hearingly s d h e t bs o)
    go false = record { beside = hearingly s d h e t bs o; says = refl; nothing = refl }

-- ---- all that comes before the end

pub record AllBeside (ds : List During) (x y : Bench) : Type 0 where
  pub beside : Beside (after (heard ds) x) (after (calls ds) y)
  pub says : sayings (heard ds) x ≡ sayings (calls ds) y
  pub nothing : handed_up (sayings (heard ds) x) ≡ []

pub all_beside : (ds : List During) {x y : Bench} → Beside x y → AllBeside ds x y
unfolding after sayings next said heard calls handed_up
all_beside [] x = record { beside = x; says = refl; nothing = refl }
all_beside (byte v ∷ ds) {x} {y} b =
    let r = all_beside ds (byte_beside v b) in
    record {
      beside = r.beside;
      says = ap (λ (xs : List Said). xs ++ sayings (heard ds) (next (Byte v) x)) (byte_silent v b) ∙ r.says;
      nothing = ap (λ (xs : List Said). handed_up (xs ++ sayings (heard ds) (next (Byte v) x))) (byte_silent v b) ∙ r.nothing;
    }
all_beside (call n a ∷ ds) {x} {y} b =
    let c = serve-both n a b in
    let r = all_beside ds c.beside in
    record {
      beside = r.beside;
      says = ap₂ ◌∷◌ c.says r.says;
      nothing = ap₂ ◌++◌ c.nothing r.nothing;
    }
