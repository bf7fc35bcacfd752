-- The end of a damaged frame, and the service call that closes its stretch. Assumes nothing.
use mathlib.Core.Path.{◌≡◌, refl, ap, ◌∙◌, subst⁻¹}
use mathlib.Core.Bool.{Bool, true, false, cond, false≢true}
use mathlib.Core.List.{List}
use Prim.Native.Nat.{ℕ, zero, suc, ◌≤◌}
use native.Mathlib.Omega.{arith}
use lib.ListN.{length}
use lib.Dec.{ltb}
use Rattle.store.specs.Store.{at_newest}
use Rattle.receive_rules.specs.Frame.{State, whole, damaged, overran}
use Rattle.receive_rules.specs.Wire as wire
use Rattle.receive_rules.specs.Wire.{ending}
use Rattle.card_rules.specs.Adapter.{Adapter}
use Rattle.card_rules.specs.Settle.{settle}
use Rattle.card_rules.specs.Event as card
use Rattle.driver_rules.specs.declared.Driver.{Driver}
use Rattle.driver_rules.specs.Talk.{run}
use Rattle.driver_rules.specs.Areas.{in_look, in_frame}
use Rattle.driver_rules.specs.Service.{look_talk}
use Rattle.driver_rules.specs.Calls.{service_call}
use Rattle.runs.specs.Run.{Bench, Areas, full, End, Service, serves, next, said}
use Rattle.no_trace.specs.Stretch.{is_damaged, newest_damaged, gives_code}
use Rattle.no_trace.specs.NoTrace.{Closing, ignored, dropped}
use Rattle.no_trace.proofs.Shapes.{side, shape, frame, calm, deaf, hearing, ended, Settled, settle-empty, settle-damaged, calm-idle, ended-idle}
use Rattle.no_trace.proofs.Noise.{ready, bench, Beside, deafly, hearingly}

-- what the closing call answers and leaves, with the frame and without
pub record Closes (n : ℕ) (r : Areas) (x y : Bench) : Type 0 where
  pub same : next (Service n r) x ≡ next (Service n r) y
  pub answers : Closing r (said (Service n r) x) (said (Service n r) y)

-- ---- the codes

data Coded : State → Type 0 where
  coded : (k : ℕ) → k ≤ 5 → Coded (damaged k)

not-whole : is_damaged whole ≡ true → ⊥
unfolding is_damaged
not-whole e = false≢true e

ending_coded : (o : Bool) (n : ℕ) (c l : Bool) → is_damaged (ending o n c l) ≡ true → Coded (ending o n c l)
unfolding ending
ending_coded true n c l e = coded 0 (omega arith)
ending_coded false n c l e = go (ltb 1514 n) (ltb n 60) l c e
  where
    go : (p q l c : Bool) → is_damaged (cond p (damaged 1) (cond q (damaged 3) (cond l (cond c whole (damaged 5)) (damaged 4)))) ≡ true
        → Coded (cond p (damaged 1) (cond q (damaged 3) (cond l (cond c whole (damaged 5)) (damaged 4))))
    go true q l c e = coded 1 (omega arith)
    go false true l c e = coded 3 (omega arith)
    go false false false c e = coded 4 (omega arith)
    go false false true false e = coded 5 (omega arith)
    go false false true true e = absurd (not-whole e)

-- ---- the closing call

serves-full : (n : ℕ) (r : Areas) (a : Adapter) (d : Driver) → full r ≡ true → serves n r (bench a d) ≡ run (look_talk n (ready d)) a
unfolding serves service_call
serves-full n r a d e = rw e

-- with nothing stored in either run
closes-calm : (n : ℕ) (r : Areas) (s : Adapter) (d : Driver) → Settled s → full r ≡ true → 2 ≤ n → Closes n r (bench (calm s) d) (bench (calm s) d)
unfolding next said in_look in_frame
closes-calm (suc (suc n)) r s d h e m =
    let p = serves-full (suc (suc n)) r (calm s) d e ∙ calm-idle s h (ready d) n in
    record { same = refl; answers = rw p ignored }
closes-calm zero r s d h e m = absurd (omega arith)
closes-calm (suc zero) r s d h e m = absurd (omega arith)

-- with a damaged frame in the one
closes-ended : (n k : ℕ) (r : Areas) (s : Adapter) (d : Driver) → Settled s → (bs : List ℕ) → k ≤ 5 → full r ≡ true → 5 ≤ n → Closes n r (bench (ended s bs k) d) (bench (calm s) d)
unfolding next said in_look in_frame
closes-ended (suc (suc (suc (suc (suc n))))) k r s d h bs small e m =
    let p = serves-full (suc (suc (suc (suc (suc n))))) r (ended s bs k) d e ∙ ended-idle s h (ready d) n k bs small in
    let q = serves-full (suc (suc (suc (suc (suc n))))) r (calm s) d e ∙ calm-idle s h (ready d) (suc (suc (suc n))) in
    record { same = rw (p, q) refl; answers = rw (p, q) dropped }
closes-ended zero k r s d h bs small e m = absurd (omega arith)
closes-ended (suc zero) k r s d h bs small e m = absurd (omega arith)
closes-ended (suc (suc zero)) k r s d h bs small e m = absurd (omega arith)
closes-ended (suc (suc (suc zero))) k r s d h bs small e m = absurd (omega arith)
closes-ended (suc (suc (suc (suc zero)))) k r s d h bs small e m = absurd (omega arith)

-- ---- the end

-- of a frame that is ignored
end_deaf : (c l : Bool) (s : Adapter) (d : Driver) → Settled s → next (End c l) (bench (deaf s) d) ≡ bench (calm s) d
unfolding next card.wire_end wire.wire_end
end_deaf c l s d h = ap (λ (a : Adapter). bench a d) (settle-empty s h false false 0)

-- of a frame that is stored
end_hearing : (c l : Bool) (s : Adapter) (d : Driver) → Settled s → (e t : Bool) (bs : List ℕ) (o : Bool) (k : ℕ) → ending o (length bs) c l ≡ damaged k →
    next (End c l) (bench (hearing s e t bs o) d) ≡ bench (ended s bs k) d
unfolding next card.wire_end wire.wire_end at_newest overran
end_hearing c l s d h e t bs o k p =
    ap (λ (st : State). bench (settle (shape s (side s e t 0 (frame bs st)))) d) p
    ∙ ap (λ (a : Adapter). bench a d) (settle-damaged s h e t 0 k bs)

code_hearing : (c l : Bool) (s : Adapter) (e t : Bool) (bs : List ℕ) (o : Bool) → gives_code c l (hearing s e t bs o) ≡ true → is_damaged (ending o (length bs) c l) ≡ true
unfolding newest_damaged overran
code_hearing c l s e t bs o p = p

ends_hearing : (c l : Bool) (n : ℕ) (r : Areas) (s : Adapter) (d : Driver) → Settled s → (e t : Bool) (bs : List ℕ) (o : Bool) → {st : State} → Coded st →
    ending o (length bs) c l ≡ st → full r ≡ true → 5 ≤ n → Closes n r (next (End c l) (bench (hearing s e t bs o) d)) (bench (calm s) d)
ends_hearing c l n r s d h e t bs o (coded k small) p f m =
    subst⁻¹ (λ (x : Bench). Closes n r x (bench (calm s) d)) (end_hearing c l s d h e t bs o k p) (closes-ended n k r s d h bs small f m)

pub closes-after : (c l : Bool) (n : ℕ) (r : Areas) {x y : Bench} → Beside x y → gives_code c l x.adapter ≡ true → full r ≡ true → 5 ≤ n → Closes n r (next (End c l) x) y
closes-after c l n r (deafly s d h) g f m =
    subst⁻¹ (λ (x : Bench). Closes n r x (bench (calm s) d)) (end_deaf c l s d h) (closes-calm n r s d h f (omega arith))
closes-after c l n r (hearingly s d h e t bs o) g f m =
    ends_hearing c l n r s d h e t bs o (ending_coded o (length bs) c l (code_hearing c l s e t bs o g)) refl f m
