-- `fetching::read_frame`: the loop keeps `Reading`: the bytes laid so far, and what is left to read. Assumes nothing.
use native.Mathlib.Omega.{arith}
use Rattle.driver_rules.proofs.Runs.{gave}
use Rattle.driver_rules.proofs.Reading.{reading-one, reading-two, reading_all}
use Rattle.items.proofs.fetching.read_frame.Goals.{then-i-n, else-i-n}
use Rattle.items.proofs.fetching.read_frame.Goals as goal

pub loop-i-preserved : goal.loop-i-preserved
loop-i-preserved c =
    let R = c.loop-i.invariant.1.1 in
    let read = gave c.read_word-w.ensures in (
      c.loop-i.invariant.0,
      (
        c.read_word-w.ensures.stands.sound,
        elim c.if-i-n.branch [
          | then-i-n t ↦ rw t.area-is (reading-two _ _ _ _ _ _ _ _ R (omega (arith, c.loop-i-test.true, c.loop-i.invariant.0)) c.requires.1.1 read t.if-i-n.true)
          | else-i-n t ↦ rw t.area-is (reading-one _ _ _ _ _ _ _ _ R (omega (arith, c.loop-i-test.true, c.loop-i.invariant.0)) c.requires.1.1 read t.if-i-n.false)
        ],
      ),
    )

pub returns : goal.returns
returns c =
    let e = reading_all _ _ _ _ _ _ c.loop-i.invariant.1.1 (omega (arith, c.loop-i.invariant.0, c.loop-i-test.false)) in record { stands = record { shows = e.0; sound = c.loop-i.invariant.1.0 }; laid = e.1 }
