-- The unread bytes as a signed number: -3 to 1,792 on a sound receive side, told back by the word, and a failure rule that is the one of the bytes that may be read. Assumes nothing.
use mathlib.Core.Path.{◌≡◌, refl, sym, ap, ◌∙◌, subst}
use mathlib.Core.Bool.{true, cond}
use mathlib.Core.List.{List, [], ◌∷◌}
use Prim.Native.Nat.{ℕ, zero, suc, ◌+◌, ◌*◌, ◌-◌, ◌%◌, ◌≤◌, ◌<◌}
use native.Mathlib.Omega.{arith}
use borrow.Author.Tests.{ltb-true, ltb-false, lt-ltb, le-ltb, le-leb, lt-leb}
use lib.Dec.{ltb, eqb, leb→le, le→leb}
use lib.IntN.{ℤ, pos, negsuc, ◌+ℤ◌}
use lib.Signed.{mag, lt_z, ◌≤ℤ◌, le_z_yes}
use lib.ListN.{length}
use mir.Syntax.{w16}
use mir.Val.{to_z, of_z}
use mir.ValLaws.{to_z-of_z}
use Rattle.store.specs.Store.{round4}
use Rattle.bits.proofs.Tests.{of_cond, of_test, by_test}
use Rattle.receive_rules.specs.Frame.{State, coming, whole, damaged, Frame, Rx, is_coming}
use Rattle.receive_rules.specs.Count.{unread, encoded, decoded}
use Rattle.receive_rules.specs.Reading.{marks, unread_in, rx_status, readable, pad_in, beyond}
use Rattle.receive_rules.specs.Sound.{in_order, sound}
use Rattle.receive_rules.proofs.Facts.{Kept, sound-told}
use Rattle.receive_rules.proofs.Order.{oldest-sized}

-- ---- what the machine reads back from the 16 bits of a count

pub back : (z : ℤ) → mag z < 32768 → to_z w16 (of_z w16 z) ≡ z
back z h = to_z-of_z w16 z (record { sfits = h })

-- ---- a difference, by its sign

pub of_unread : (P : ℤ → Type 0) (n r : ℕ) → (r ≤ n → P (pos (n - r))) → (n < r → P (negsuc (r - suc n))) → P (unread n r)
of_unread P n zero f g = let e : n - 0 ≡ n + 0 = omega arith in subst P (ap pos e) (f (omega arith))
of_unread P n (suc r) f g = of_test P (ltb n (suc r)) (λ e. g (ltb-true n (suc r) e)) (λ e. f (ltb-false n (suc r) e))

-- ---- the word tells the count

-- -3 to 1,792
abbrev pub Between : ℤ → Type 0
Between z = (negsuc 2 ≤ℤ z) × (z ≤ℤ pos 1792)

pub unread-between : (n r : ℕ) → n ≤ 1792 → r ≤ n + 3 → Between (unread n r)
unread-between n r l m =
    of_unread Between n r
    (λ h. (le_z_yes tt, le_z_yes (le→leb (n - r) 1792 (omega arith))))
    (λ h. (le_z_yes (le→leb (r - suc n) 2 (omega arith)), le_z_yes tt))

-- .. so that it has few bits
pub between-small : (z : ℤ) → Between z → mag z < 2048
between-small (pos n) b = omega (arith, leb→le n 1792 b.1.le)
between-small (negsuc n) b = omega (arith, leb→le n 2 b.0.le)

pub unread-small : (n r : ℕ) → n < 2048 → r ≤ n + 3 → mag (unread n r) < 2048
unread-small n r l m = of_unread (λ z. mag z < 2048) n r (λ h. omega arith) (λ h. omega arith)

-- in two's complement, whatever was read up to 2,048 bytes too many
pub encoded_is : (n r : ℕ) → r ≤ n + 2048 → encoded (unread n r) ≡ (n + 2048 - r) % 2048
encoded_is n r h = of_unread (λ z. encoded z ≡ (n + 2048 - r) % 2048) n r (λ l. omega arith) (λ l. omega arith)

-- a word of eleven bits and marks above them
from-word : (m : ℕ) (z : ℤ) → Between z → decoded (m * 2048 + encoded z) ≡ z
from-word m (pos n) b =
    let l : n ≤ 1792 = leb→le n 1792 b.1.le in
    let e : (m * 2048 + n % 2048) % 2048 ≡ n = omega arith in
    rw (e, le-leb n 1792 l)
from-word m (negsuc n) b =
    let l : n ≤ 2 = leb→le n 2 b.0.le in
    let e : (m * 2048 + (2047 - n % 2048)) % 2048 ≡ 2047 - n = omega arith in
    let f : 2047 - (2047 - n) ≡ n = omega arith in
    rw (e, lt-leb (2047 - n) 1792 (omega arith), f)

-- .. which are the marks of a frame
pub decoded-encoded : (s : State) (z : ℤ) → Between z → decoded (marks s + encoded z) ≡ z
unfolding marks
decoded-encoded (coming o) z b = from-word 16 z b
decoded-encoded whole z b = from-word 0 z b
decoded-encoded (damaged k) z b = let e : (8 + k) * 2048 ≡ 16384 + k * 2048 = omega arith in rw e at (from-word (8 + k) z b)

-- no more than the pad was read besides
pub few : (r : ℕ) (f : Frame) (fs : List Frame) → r ≤ readable (f ∷ fs) → r ≤ length f.bytes + 3
unfolding readable
few r f fs h =
    let n : ℕ = length f.bytes in
    let most : cond (is_coming f.state) n (round4 n) ≤ n + 3 = of_cond (λ (m : ℕ). m ≤ n + 3) (is_coming f.state) (omega arith) (omega arith) in
    omega arith

module _ (size : ℕ) (x : Rx) (h : sound size x ≡ true) where
  kept : Kept size x
  kept = (sound-told size x h).0

  between : (fs : List Frame) → in_order (eqb x.receiver.wire 2) fs ≡ true → x.receiver.read ≤ readable fs → Between (unread_in x.receiver.read fs)
  between [] o r = (le_z_yes tt, le_z_yes tt)
  between (f ∷ fs) o r = unread-between (length f.bytes) x.receiver.read (oldest-sized (eqb x.receiver.wire 2) f fs o).1 (few x.receiver.read f fs r)

  pub count-between : Between (unread_in x.receiver.read x.frames)
  count-between = between x.frames kept.order kept.read

  comes_back : (fs : List Frame) → Between (unread_in x.receiver.read fs) → decoded (rx_status x.receiver.read fs) ≡ unread_in x.receiver.read fs
  unfolding rx_status
  comes_back [] b = refl
  comes_back (f ∷ fs) b = decoded-encoded f.state (unread (length f.bytes) x.receiver.read) b

  -- the word that a sound receive side shows tells its unread bytes
  pub count-told : decoded (rx_status x.receiver.read x.frames) ≡ unread_in x.receiver.read x.frames
  count-told = comes_back x.frames count-between

-- ---- the failure rule

same_test : (a b c d : ℕ) → (a < b → c < d) → (b ≤ a → d ≤ c) → ltb a b ≡ ltb c d
same_test a b c d f g = by_test (ltb a b) (λ y. y ∙ sym (lt-ltb c d (f (ltb-true a b y)))) (λ n. n ∙ sym (le-ltb c d (g (ltb-false a b n))))

-- with n bytes, r read and a pad of p: fewer than two are left
left-short : (n r p : ℕ) → lt_z (unread n r +ℤ pos p) (pos 2) ≡ ltb (n + p) (r + 2)
left-short n r p =
    of_unread (λ z. lt_z (z +ℤ pos p) (pos 2) ≡ ltb (n + p) (r + 2)) n r
    (λ h. same_test (n - r + p) 2 (n + p) (r + 2) (λ l. omega arith) (λ l. omega arith))
    (λ h.
    of_test (λ z. lt_z z (pos 2) ≡ ltb (n + p) (r + 2)) (ltb p (suc (r - suc n)))
    (λ y. sym (lt-ltb (n + p) (r + 2) (omega (arith, ltb-true p (suc (r - suc n)) y))))
    (λ m. let l = ltb-false p (suc (r - suc n)) m in same_test (p - suc (r - suc n)) 2 (n + p) (r + 2) (λ l. omega arith) (λ l. omega arith)))

-- .. which is where the second byte of the word is none that may be read
left_in_lem : (r : ℕ) (fs : List Frame) → lt_z (unread_in r fs +ℤ pos (pad_in fs)) (pos 2) ≡ ltb (readable fs) (r + 2)
unfolding readable
left_in_lem r [] = sym (lt-ltb 0 (r + 2) (omega arith))
left_in_lem r (f ∷ fs) =
    let n : ℕ = length f.bytes in
    let e : n + pad_in (f ∷ fs) ≡ cond (is_coming f.state) n (round4 n) = by_test (is_coming f.state) (λ y. rw y (omega arith)) (λ m. rw m (omega arith)) in
    left-short n r (pad_in (f ∷ fs)) ∙ ap (λ (m : ℕ). ltb m (r + 2)) e

pub beyond_is : (x : Rx) → beyond x ≡ ltb (readable x.frames) (x.receiver.read + 2)
beyond_is x = left_in_lem x.receiver.read x.frames
