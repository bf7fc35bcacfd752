-- `wire::wire_start` meets its contract: the code's test is the definition's, a frame that fits finds a place in the directory, and its first bytes go behind the others. Assumes nothing.
use borrow.Author.Tests.{leb-true}
use mathlib.Core.Path.{◌≡◌, sym, ◌∙◌}
use mathlib.Core.Bool.{Bool, true, false, ◌&&◌}
use Prim.Native.Nat.{ℕ, ◌≤◌, ◌+◌}
use native.Mathlib.Omega.{arith}
use lib.Dec.{leb, eqb, lit<, lit≤}
use lib.ListN.{length}
use mathlib.Core.List.{List}
use borrow.Author.Rules.{rules}
use Rattle.receive_rules.specs.declared.Receive.{Receive}
use Rattle.receive_rules.specs.Frame.{room}
use Rattle.store.specs.Store as store
use Rattle.receive_rules.specs.Wire.{wire_start, begins}
use Rattle.receive_rules.specs.View.{rx_area, frames_of, Sound}
use Rattle.bits.proofs.Tests.{both}
use Rattle.receive_rules.proofs.Facts.{facts}
use Rattle.receive_rules.proofs.Order.{place-left, room_of_lem, room_in_lem}
use Rattle.receive_rules.proofs.Steps.{step_same, step-turns}
use Rattle.receive.proofs.Paths.{start_open, start-turns}
use Rattle.receive.proofs.wire.wire_start.Goals as goal

-- the code's test is the definition's
same_test : (size : ℕ) (r : Receive) (ram dir : List ℕ) (taken : Bool) → Sound size r ram dir → (used : ℕ) (t : Bool) → used ≡ store.room_of (store.part 0 r.frames dir)
    → (taken && (r.receiver.on && leb (used + 8) size)) ≡ t
    → (taken && (r.receiver.on && leb (room (frames_of size r.frames ram dir) + 8) size)) ≡ t
same_test size r ram dir taken S used t u h = rw (room_of_lem size r.frames ram dir S.packed, ← u) h

-- where it holds, 8 bytes fit
fitting : (a b : Bool) (m n : ℕ) → (a && (b && leb m n)) ≡ true → m ≤ n
fitting a b m n h = leb-true m n (both b (leb m n) (both a (b && leb m n) h).1).1

pub begin-requires : goal.begin-requires
begin-requires c =
    let s = c.args in
    let u = c.used-used in
    let p = c.requires.0 in
    let k = fitting s.taken s.r.receiver.on (u.result + 8) s.size c.if-taken-r.true in (
      rw c.area-a.ensures p.packed,
      rw c.area-a.ensures (place-left s.size s.r.frames (eqb s.r.receiver.wire 2) s.ram.now s.dir.now p.packed (facts s.size s.r s.ram.now s.dir.now p).order
          (omega (arith, k, u.ensures)) p.small),
      lit< tt,
    )

pub append_bytes-requires : goal.append_bytes-requires
append_bytes-requires c =
    let s = c.args in
    let u = c.used-used in
    let B = c.begin.ensures in
    let k = fitting s.taken s.r.receiver.on (u.result + 8) s.size c.if-taken-r.true in
    let n8 : length s.first ≡ 8 = search rules in
    let fs = store.view (rx_area s.size) s.r.frames s.ram.now s.dir.now in
    let e : store.room_in fs ≡ u.result = room_in_lem s.size s.r.frames s.ram.now s.dir.now c.requires.0.packed ∙ sym u.ensures in
    record {
      sound = B.sound;
      fact = rw (B.holds, n8, c.area-a.ensures) (start_open s.size u.result 8 16 fs (sym e) (lit≤ tt) (omega (arith, k, e)));
    }

pub returns-then-taken-r : goal.returns-then-taken-r
unfolding wire_start begins
returns-then-taken-r c =
    let s = c.args in
    let u = c.used-used in
    let t = same_test s.size s.r s.ram.now s.dir.now s.taken c.requires.0 _ true u.ensures c.if-taken-r.true in
    step-turns s.size _ s.ram.now s.dir.now _ _ _ _
    (start-turns s.size s.r.frames s.first s.ram.now s.dir.now _ _ _ _ (rw c.area-a.ensures at c.begin.ensures) (rw c.area-a.ensures at c.append_bytes.ensures))
    (rw t)

pub returns : goal.returns
unfolding wire_start begins
returns c =
    let s = c.args in
    let u = c.used-used in
    let t = same_test s.size s.r s.ram.now s.dir.now s.taken c.requires.0 _ false u.ensures c.if-taken-r.false in
    step_same s.size _ s.ram.now s.dir.now _ c.requires.0.packed (rw t)
