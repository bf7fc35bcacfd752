-- Settling RX Early makes a receive side that is kept sound, and changes nothing in a sound one. Assumes nothing.
use mathlib.Core.Path.{◌≡◌, refl, sym, ◌∙◌}
use mathlib.Core.Bool.{Bool, true, false, not, ◌&&◌, ◌||◌}
use mathlib.Core.List.{List, [], ◌∷◌}
use Prim.Native.Nat.{ℕ}
use borrow.Author.Tests.{leb-true, leb-false, lt-ltb, le-ltb}
use lib.Dec.{leb, ltb}
use lib.ListN.{length}
use Rattle.receive_rules.specs.declared.Receiver.{Receiver}
use Rattle.receive_rules.specs.Frame.{Frame, Rx, is_coming}
use Rattle.receive_rules.specs.Update.{with_early}
use Rattle.receive_rules.specs.Early.{early_flag, told_flag, settle_early}
use Rattle.receive_rules.specs.Sound.{early_settled, kept, sound}
use Rattle.bits.proofs.Tests.{by_test, never}
use Rattle.receive_rules.proofs.Facts.{kept-told, sound-told, sound-shown}

flags_settled : (r : Receiver) (fs : List Frame) → (r.told || not r.early) ≡ true
    → ((told_flag r fs || not (early_flag r fs)) ≡ true) × (early_settled (with_early (early_flag r fs) (told_flag r fs) r) fs ≡ true)
unfolding early_flag told_flag early_settled
flags_settled r [] h = (refl, refl)
flags_settled r (f ∷ fs) h =
    by_test (is_coming f.state)
    (λ y. rw y (way r.told r.early (leb r.threshold (length f.bytes)) h (λ n. lt-ltb _ _ (leb-false r.threshold (length f.bytes) n))))
    (λ m. rw m (refl, refl))
  where
    way : (told early due : Bool) → (told || not early) ≡ true → (due ≡ false → ltb (length f.bytes) r.threshold ≡ true)
        → (((due && not told || told) || not (due && not told || early)) ≡ true) × (((due && not told || told) || ltb (length f.bytes) r.threshold) ≡ true)
    way true early true h l = (refl, refl)
    way true early false h l = (refl, refl)
    way false early true h l = (refl, refl)
    way false early false h l = (h, l refl)

pub settled_sound : (size : ℕ) (x : Rx) → kept size x ≡ true → sound size (settle_early x) ≡ true
settled_sound size x h =
    let k = kept-told size x h in
    let q = flags_settled x.receiver x.frames k.early in
    sound-shown size (settle_early x) (record { space = k.space; wire = k.wire; order = k.order; read = k.read; threshold = k.threshold; early = q.0 }) q.1

-- where no frame is coming neither flag stands
over : (told early : Bool) → (told || not early) ≡ true → not told ≡ true → (false ≡ early) × (false ≡ told)
over true early h e = never e
over false true h e = never h
over false false h e = (refl, refl)

-- settling changes nothing that is settled
flags-same : (r : Receiver) (fs : List Frame) → (r.told || not r.early) ≡ true → early_settled r fs ≡ true → (early_flag r fs ≡ r.early) × (told_flag r fs ≡ r.told)
unfolding early_flag told_flag early_settled
flags-same r [] h e = over r.told r.early h e
flags-same r (f ∷ fs) h e =
    by_test (is_coming f.state)
    (λ y. rw y (coming r.told r.early (leb r.threshold (length f.bytes)) (rw y at e) (λ t. le-ltb _ _ (leb-true r.threshold (length f.bytes) t))))
    (λ m. rw m (over r.told r.early h (rw m at e)))
  where
    coming : (told early due : Bool) → (told || ltb (length f.bytes) r.threshold) ≡ true → (due ≡ true → ltb (length f.bytes) r.threshold ≡ false)
        → ((due && not told || early) ≡ early) × ((due && not told || told) ≡ told)
    coming true early true e l = (refl, refl)
    coming true early false e l = (refl, refl)
    coming false early true e l = never (sym (l refl) ∙ e)
    coming false early false e l = (refl, refl)

pub settled_same : (size : ℕ) (x : Rx) → sound size x ≡ true → settle_early x ≡ x
settled_same size x h =
    let p = sound-told size x h in
    let q = flags-same x.receiver x.frames p.0.early p.1 in
    rw (q.0, q.1)
