-- `reporting::report`: its accesses are those of `report_talk`, and each way through it is a law of Ways. Assumes nothing.
use mathlib.Core.Bool.{false}
use mathlib.Core.List.{[]}
use Prim.Native.Nat.{◌-◌}
use native.Mathlib.Omega.{arith}
use Rattle.driver_rules.specs.Driver.{with_error}
use Rattle.driver_rules.proofs.Runs.{gave, wrote}
use Rattle.driver_rules.specs.Items.{seen}
use Rattle.driver_rules.proofs.ItemWays as ways
use Rattle.driver_rules.proofs.Unmoved as unmoved
use Rattle.items.proofs.reporting.report.Goals as goal

pub returns-then-left-lt4 : goal.returns-then-left-lt4
returns-then-left-lt4 c = rw c.short.ensures (ways.report_short _ _ _ _ c.if-left-lt4.true, (c.requires, unmoved.stays _ _ _ _))

pub returns-then-wrong-second : goal.returns-then-wrong-second
returns-then-wrong-second c =
    rw (c.told.ensures, c.with_error.ensures) (let t = ways.told c.args.left _ c.read_byte-first.result.value (with_error false c.args.d) _ _ _ (c.args.left - 4) (ways.report-on c.args.left _ _ _ _ _ _ _ _ c.if-left-lt4.false (gave c.read_byte-first.ensures) (wrote _ c.write_byte-popped.ensures) (gave c.read_byte-second.ensures) c.if-wrong-second.true _ _ (wrote _ c.write_word-on.ensures)) (omega (arith, c.if-left-lt4.false)) in (t, (c.write_word-on.ensures.sound, unmoved.begun _ _ _ _ _ _ (t [] []) (unmoved.report_goes _ _))))

pub returns : goal.returns
returns c =
    rw (c.told-2.ensures, c.with_error-2.ensures) (let t = ways.told c.args.left _ c.read_byte-first.result.value (seen c.args.d c.read_byte-first.result.value) _ _ _ (c.args.left - 3) (ways.report-off c.args.left _ _ _ _ _ _ _ _ c.if-left-lt4.false (gave c.read_byte-first.ensures) (wrote _ c.write_byte-popped.ensures) (gave c.read_byte-second.ensures) c.if-wrong-second.false) (omega (arith, c.if-left-lt4.false)) in (t, (c.read_byte-second.ensures.stands.sound, unmoved.begun _ _ _ _ _ _ (t [] []) (unmoved.report_goes _ _))))
