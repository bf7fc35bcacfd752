-- `sound::rx_sound` meets its contract: where its first two tests hold the frames lie in their area, and there the others are those of `sound`. Assumes nothing.
use borrow.Author.Tests.{le-leb, lt-leb}
use mathlib.Core.Path.{◌≡◌}
use mathlib.Core.Bool.{false}
use Prim.Native.Nat.{ℕ}
use native.Mathlib.Omega.{arith}
use lib.Dec.{leb}
use Rattle.store.specs.Store as store
use Rattle.receive_rules.specs.View.{sound_side, rx_area}
use Rattle.receive_rules.proofs.Order.{room_of_lem}
use Rattle.receive.proofs.sound.rx_sound.Goals as goal

pub returns-then-count-gt-SLOTS : goal.returns-then-count-gt-SLOTS
unfolding sound_side
returns-then-count-gt-SLOTS c = rw (lt-leb _ _ c.if-count-gt-SLOTS.true)

pub returns-then-size-used : goal.returns-then-size-used
unfolding sound_side
returns-then-size-used c =
    let s = c.args in
    let used : ℕ = store.room_of (store.part 0 s.r.frames s.dir.now) in
    let k : leb used s.size ≡ false = lt-leb used s.size (omega (arith, c.used.ensures)) in
    rw (le-leb _ _ c.if-count-gt-SLOTS.false, k)

pub returns : goal.returns
unfolding sound_side
returns c =
    let s = c.args in
    let S : store.Sound (rx_area s.size) s.r.frames s.ram.now s.dir.now = (record { in_ram = omega arith; in_dir = omega arith; few = c.if-count-gt-SLOTS.false; small = omega arith; room = omega arith }) in
    let k = le-leb (store.room_of (store.part 0 s.r.frames s.dir.now)) s.size S.room in
    rw (c.early_settled-settled.ensures, c.readable_bytes-have.ensures.0, c.in_order-ordered.ensures, le-leb _ _ c.if-count-gt-SLOTS.false, room_of_lem s.size s.r.frames s.ram.now s.dir.now S, k)
