-- `setup::prom_command` meets its contract: what each way's calls ensure, and the tests that led there, pick its case.
-- Assumes nothing.
use borrow.Author.Tests.{ne_eqb}
use native.Mathlib.Omega.{arith}
use Prim.Native.Nat.{◌/◌}
use Rattle.card_rules.specs.Eeprom.{prom_command}
use Rattle.window_write.proofs.setup.prom_command.Goals as goal
use Rattle.window_write.proofs.setup.prom_command.Goals.{in-1+else-p, in-3+else-p-2}

pub returns-in-2 : goal.returns-in-2
unfolding prom_command
returns-in-2 c = rw (c.leaving.ensures, c.read_register.ensures, c.in-2.is)

pub returns-in-1 : goal.returns-in-1
unfolding prom_command
returns-in-1 c = rw (c.leaving-in-1.ensures, c.write_register.ensures, c.in-1.is, c.if-p.true)

pub returns-in-3 : goal.returns-in-3
unfolding prom_command
returns-in-3 c = rw (c.leaving-in-3.ensures, c.erase_register.ensures, c.in-3.is, c.if-p-2.true)

pub returns-in-1-2 : goal.returns-in-1-2
unfolding prom_command
returns-in-1-2 c =
    rw c.leaving-in-1-2.ensures
    (elim c.in-1-2-1.branch [
      | in-1+else-p w ↦ rw (w.in-1.is, w.if-p.false)
      | in-3+else-p-2 w ↦ rw (w.in-3.is, w.if-p-2.false)
    ])

pub returns-in_default : goal.returns-in_default
unfolding prom_command
returns-in_default c =
    let k = c.args.v / 64 in
    rw (c.whole_command.ensures, ne_eqb k 2 (λ e. omega (arith, c.in_default)), ne_eqb k 1 (λ e. omega (arith, c.in_default)), ne_eqb k 3 (λ e. omega (arith, c.in_default)))
