-- `telling::told`: each branch is one case of `reports`. Assumes nothing.
use Rattle.std.specs.Prelude.{◌≡◌, ◌+◌, ◌-◌}
use native.Mathlib.Omega.{arith}
use borrow.Author.Tests.{lt-ltb, le-ltb}
use Rattle.driver_rules.specs.Items.{reports}
use Rattle.items.proofs.telling.told.Goals as goal

pub returns-then-waiting-gt0 : goal.returns-then-waiting-gt0
unfolding reports
returns-then-waiting-gt0 c =
    let back : c.args.d.sent + (65536 - c.args.d.unreported) ≡ c.args.d.sent + 65536 - c.args.d.unreported = omega (arith, c.from.type_inv, c.from.ensures) in
    rw (c.ended.ensures, c.from.ensures, lt-ltb _ _ c.if-waiting-gt0.true, back)

pub returns : goal.returns
unfolding reports
returns c = rw (c.ended-2.ensures, le-ltb _ _ c.if-waiting-gt0.false)
