-- `setup::whole_command` meets its contract: what each way's calls ensure, and the tests that led there, pick its case.
-- Assumes nothing.
use borrow.Author.Tests.{ne_eqb}
use native.Mathlib.Omega.{arith}
use Prim.Native.Nat.{◌/◌, ◌%◌}
use Rattle.card_rules.specs.Eeprom.{whole}
use Rattle.window_write.proofs.setup.whole_command.Goals as goal
use Rattle.window_write.proofs.setup.whole_command.Goals.{in_default-via-in-2+else-p, in_default-via-in-1+else-p-2, in_default-via-in_default-1}

pub returns-in-3 : goal.returns-in-3
unfolding whole
returns-in-3 c = rw (c.leaving.ensures, c.in-3.is)

pub returns-in-2 : goal.returns-in-2
unfolding whole
returns-in-2 c = rw (c.leaving-in-2.ensures, c.erase_all.ensures, c.in-2.is, c.if-p.true)

pub returns-in-1 : goal.returns-in-1
unfolding whole
returns-in-1 c = rw (c.leaving-in-1.ensures, c.write_all.ensures, c.in-1.is, c.if-p-2.true)

pub returns-in_default : goal.returns-in_default
unfolding whole
returns-in_default c =
    let k = c.args.v % 64 / 16 in
    rw c.leaving-in_default.ensures
    (elim c.in_default.branch [
      | in_default-via-in-2+else-p w ↦ rw (w.in-2.is, w.if-p.false)
      | in_default-via-in-1+else-p-2 w ↦ rw (w.in-1.is, w.if-p-2.false)
      | in_default-via-in_default-1 w ↦ rw (ne_eqb k 3 (λ e. omega (arith, w)), ne_eqb k 2 (λ e. omega (arith, w)), ne_eqb k 1 (λ e. omega (arith, w)))
    ])
