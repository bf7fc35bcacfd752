-- A sound receive side, as facts: `sound` is true where, and only where, they hold. Assumes nothing.
use mathlib.Core.Path.{◌≡◌}
use mathlib.Core.Bool.{Bool, true, not, ◌&&◌, ◌||◌}
use mathlib.Core.List.{List}
use Prim.Native.Nat.{ℕ, zero, suc, ◌≤◌, ◌<◌}
use native.Mathlib.Omega.{arith}
use borrow.Author.Tests.{leb-true, le-leb, eq-eqb}
use lib.Dec.{leb, eqb, lit<}
use lib.ListN.{length}
use Rattle.store.specs.Store as store
use Rattle.receive_rules.specs.declared.Receive.{Receive}
use Rattle.receive_rules.specs.Frame.{Rx, room}
use Rattle.receive_rules.specs.Reading.{readable, early_least}
use Rattle.receive_rules.specs.Sound.{in_order, early_settled, kept, sound}
use Rattle.receive_rules.specs.View.{frames_of, rx_area, rx_of, Sound, sound_side}
use Rattle.bits.proofs.Tests.{both, never}

pub record Kept (size : ℕ) (x : Rx) : Type 0 where
  pub space : room x.frames ≤ size
  pub wire : x.receiver.wire ≤ 2
  pub order : in_order (eqb x.receiver.wire 2) x.frames ≡ true
  pub read : x.receiver.read ≤ readable x.frames
  pub threshold : (early_least ≤ x.receiver.threshold) × (x.receiver.threshold ≤ 2047)
  pub early : (x.receiver.told || not x.receiver.early) ≡ true

pub kept-told : (size : ℕ) (x : Rx) → kept size x ≡ true → Kept size x
kept-told size x h =
    let a : Bool = leb (room x.frames) size in
    let b : Bool = leb x.receiver.wire 2 in
    let d : Bool = in_order (eqb x.receiver.wire 2) x.frames in
    let e : Bool = leb x.receiver.read (readable x.frames) in
    let g : Bool = leb early_least x.receiver.threshold in
    let m : Bool = leb x.receiver.threshold 2047 in
    let t = both (a && b && d && e && (g && m)) (x.receiver.told || not x.receiver.early) h in
    let s = both (a && b && d && e) (g && m) t.0 in
    let r = both (a && b && d) e s.0 in
    let q = both (a && b) d r.0 in
    let p = both a b q.0 in
    record {
      space = leb-true _ _ p.0;
      wire = leb-true _ _ p.1;
      order = q.1;
      read = leb-true _ _ r.1;
      threshold = let l = both g m s.1 in (leb-true _ _ l.0, leb-true _ _ l.1);
      early = t.1;
    }

pub kept-shown : (size : ℕ) (x : Rx) → Kept size x → kept size x ≡ true
kept-shown size x k = rw (le-leb _ _ k.space, le-leb _ _ k.wire, k.order, le-leb _ _ k.read, le-leb _ _ k.threshold.0, le-leb _ _ k.threshold.1, k.early)

pub sound-told : (size : ℕ) (x : Rx) → sound size x ≡ true → Kept size x × (early_settled x.receiver x.frames ≡ true)
sound-told size x h = let p = both (kept size x) _ h in (kept-told size x p.0, p.1)

pub sound-shown : (size : ℕ) (x : Rx) → Kept size x → early_settled x.receiver x.frames ≡ true → sound size x ≡ true
sound-shown size x k e = rw (kept-shown size x k, e)

pub sound-kept : (size : ℕ) (x : Rx) → sound size x ≡ true → kept size x ≡ true
sound-kept size x h = (both (kept size x) _ h).0

-- ---- a frame that the wire stores is there

some_stored : (size n : ℕ) (ram dir : List ℕ) → in_order true (frames_of size n ram dir) ≡ true → 0 < n
unfolding in_order store.frames
some_stored size zero ram dir h = never h
some_stored size (suc n) ram dir h = omega arith

module _ (size : ℕ) (r : Receive) (ram dir : List ℕ) (S : Sound size r ram dir) where
  pub facts : Kept size (rx_of size r ram dir)
  facts = (sound-told size (rx_of size r ram dir) S.calm).0

  pub stored-order : r.receiver.wire ≡ 2 → in_order true (frames_of size r.frames ram dir) ≡ true
  stored-order h = rw (eq-eqb r.receiver.wire 2 h) at facts.order

  pub stored_some : r.receiver.wire ≡ 2 → 0 < r.frames
  stored_some h = some_stored size r.frames ram dir (stored-order h)

-- ---- the test of a receive side is true where, and only where, it is sound

pub side_told : (size : ℕ) (r : Receive) (ram dir : List ℕ) → size ≤ 6144 → 6144 ≤ length ram → 768 ≤ length dir → sound_side size r ram dir ≡ true
    → Sound size r ram dir
unfolding sound_side
side_told size r ram dir small hr hd h =
    let used : ℕ = store.room_of (store.words (rx_area size) r.frames dir) in
    let p = both (leb r.frames 768 && leb used size) (sound size (rx_of size r ram dir)) h in
    let q = both (leb r.frames 768) (leb used size) p.0 in
    record {
      small = small;
      packed = record {
        in_ram = omega arith;
        in_dir = omega arith;
        few = leb-true r.frames 768 q.0;
        small = lit< tt;
        room = leb-true used size q.1;
      };
      calm = p.1;
    }

pub side_shown : (size : ℕ) (r : Receive) (ram dir : List ℕ) → Sound size r ram dir → sound_side size r ram dir ≡ true
unfolding sound_side
side_shown size r ram dir S = rw (le-leb _ _ S.packed.few, le-leb _ _ S.packed.room, S.calm)
