-- `reading::left` meets its contract: a count and a pad are small, so that their sum is the one of integers. Assumes nothing.
use borrow.Author.Tests.{ltb-true, ltb-false}
use mathlib.Core.Path.{◌≡◌, sym, ◌∙◌, subst}
use Prim.Native.Nat.{ℕ, suc, ◌<◌}
use native.Mathlib.Omega.{arith}
use lib.Dec.{ltb}
use lib.IntN.{ℤ, pos, negsuc, ◌+ℤ◌}
use lib.Signed.{mag}
use mir.Syntax.{w16}
use mir.Val.{SFits, to_z, of_z}
use mir.ValLaws.{to_z_pos, to_z-of_z}
use mathlib.Core.List.{List}
use Rattle.receive_rules.specs.declared.Receive.{Receive}
use Rattle.receive_rules.specs.Reading.{unread_in}
use Rattle.bits.proofs.Tests.{of_test}
use Rattle.receive_rules.proofs.Count.{between-small, count-between}
use Rattle.receive_rules.specs.View.{frames_of, rx_of, Sound}
use Rattle.receive.proofs.reading.left.Goals as goal

-- a small count and a pad
module _ (u : ℤ) (p : ℕ) (f : SFits w16 u) (s : mag u < 2048) (l : p < 4) where
  sum : to_z w16 (of_z w16 u) +ℤ to_z w16 p ≡ u +ℤ pos p
  sum = λ i. to_z-of_z w16 u f i +ℤ to_z_pos w16 p (omega arith) i

small : (u : ℤ) (p : ℕ) → mag u < 2048 → p < 4 → mag (u +ℤ pos p) < 32768
small (pos n) p s l = omega arith
small (negsuc n) p s l = of_test (λ (z : ℤ). mag z < 32768) (ltb p (suc n)) (λ y. omega (arith, ltb-true p (suc n) y)) (λ m. omega (arith, ltb-false p (suc n) m))

module _ (u : ℤ) (p : ℕ) (f : SFits w16 u) (s : mag u < 2048) (l : p < 4) where
  fits : SFits w16 (to_z w16 (of_z w16 u) +ℤ to_z w16 p)
  fits = subst (SFits w16) (sym (sum u p f s l)) (record { sfits = small u p s l })

  whole : to_z w16 (of_z w16 (to_z w16 (of_z w16 u) +ℤ to_z w16 p)) ≡ u +ℤ pos p
  whole = to_z-of_z w16 _ fits ∙ sum u p f s l

-- the count is small
few : (size : ℕ) (r : Receive) (ram dir : List ℕ) → Sound size r ram dir → (u : ℤ) → u ≡ unread_in r.receiver.read (frames_of size r.frames ram dir) → mag u < 2048
few size r ram dir S u e = subst (λ (z : ℤ). mag z < 2048) (sym e) (between-small _ (count-between size (rx_of size r ram dir) S.calm))

pub overflow_add-result : goal.overflow_add-result
overflow_add-result c =
    let s = c.args in
    let u = c.unread in
    fits u.result c.pad.result (record { sfits = u.type_inv }) (few s.size s.r s.ram.now s.dir.now c.requires u.result u.ensures) c.pad.ensures.1

pub returns : goal.returns
returns c =
    let s = c.args in
    let u = c.unread in
    whole u.result c.pad.result (record { sfits = u.type_inv }) (few s.size s.r s.ram.now s.dir.now c.requires u.result u.ensures) c.pad.ensures.1
    ∙ (λ i. u.ensures i +ℤ pos (c.pad.ensures.0 i))
