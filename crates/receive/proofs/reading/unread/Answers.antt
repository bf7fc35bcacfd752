-- `reading::unread` meets its contract: both numbers are small, so that their difference is the one of integers. Assumes nothing.
use mathlib.Core.Path.{◌≡◌, refl, sym, ◌∙◌, subst}
use Prim.Native.Nat.{ℕ, ◌+◌, ◌<◌, ◌≤◌, ◌%◌}
use native.Mathlib.Omega.{arith}
use lib.IntN.{◌-ℤ◌}
use lib.ListN.{get_or}
use mathlib.Core.List.{List}
use Rattle.receive_rules.specs.declared.Receive.{Receive}
use Rattle.receive_rules.specs.View.{Sound}
use mir.Syntax.{w16}
use mir.Val.{SFits, to_z}
use mir.ValLaws.{to_z_pos, to_z-of_z}
use Rattle.receive_rules.specs.Count.{unread}
use Rattle.receive_rules.proofs.Count.{unread-small}
use Rattle.receive_rules.proofs.Facts.{facts}
use Rattle.receive_rules.proofs.Oldest.{none}
use Rattle.receive.proofs.Word.{unread-some, readable-most}
use Rattle.receive.proofs.reading.unread.Goals as goal

-- no more than the pad was read besides
few : (size : ℕ) (r : Receive) (ram dir : List ℕ) → Sound size r ram dir → (r.frames ≡ 0 → ⊥) → r.receiver.read ≤ get_or dir 0 0 % 2048 + 3
few size r ram dir S h = omega (arith, (facts size r ram dir S).read, readable-most size r.frames ram dir S.packed h)

-- the machine's difference of two small numbers
module _ (n r : ℕ) (l : n < 2048) (m : r ≤ n + 3) where
  apart : to_z w16 n -ℤ to_z w16 r ≡ unread n r
  apart = λ i. to_z_pos w16 n (omega arith) i -ℤ to_z_pos w16 r (omega arith) i

  fits : SFits w16 (to_z w16 n -ℤ to_z w16 r)
  fits = subst (SFits w16) (sym apart) (record { sfits = omega (arith, unread-small n r l m) })

pub returns-then-r-eq0 : goal.returns-then-r-eq0
returns-then-r-eq0 c = rw (none _ _ _ _ c.if-r-eq0.true) refl

pub overflow_cast-result-2 : goal.overflow_cast-result-2
overflow_cast-result-2 c =
    let s = c.args in
    record { sfits = omega (arith, few s.size s.r s.ram.now s.dir.now c.requires c.if-r-eq0.false) }

pub overflow_sub-result : goal.overflow_sub-result
overflow_sub-result c =
    let s = c.args in
    fits _ _ (omega arith) (few s.size s.r s.ram.now s.dir.now c.requires c.if-r-eq0.false)

pub returns : goal.returns
returns c =
    let s = c.args in
    to_z-of_z w16 _ (overflow_sub-result c) ∙ apart _ _ (omega arith) (few s.size s.r s.ram.now s.dir.now c.requires c.if-r-eq0.false)
    ∙ sym (unread-some s.size s.r.frames s.ram.now s.dir.now c.requires.packed c.if-r-eq0.false s.r.receiver.read)
