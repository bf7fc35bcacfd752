-- `fetching::read_frame`: the loop keeps `Reading`: the bytes laid so far, and what is left to read. Assumes nothing.
use Prim.Native.Nat.{◌+◌, ◌/◌}
use Rattle.std.specs.Prelude.{◌≡◌}
use Rattle.card_rules.specs.View.{view, Sound}
use Rattle.driver_rules.proofs.Reading.{Reading}
use Rattle.items.proofs.fetching.read_frame.Given as goal

abbrev pub invariant-loop-i : goal.invariant-loop-i
invariant-loop-i l = (l.i-end ≡ (l.n + 1) / 2) × (Sound l.at l.ram l.dir × Reading l.n (view l.initial.at l.ram l.dir) l.initial.area l.i (view l.at l.ram l.dir) l.area)
