-- `fetching::fetch`: its words and the discard are those of `fetch_talk`, by the laws of Ways. Assumes nothing.
use Rattle.std.specs.Prelude.{◌≡◌, ◌+◌, ◌/◌}
use mathlib.Core.Path.{refl}
use native.Mathlib.Omega.{arith}
use Rattle.driver_rules.proofs.Runs.{wrote}
use Rattle.driver_rules.proofs.ItemWays as ways
use Rattle.driver_rules.proofs.Unmoved as unmoved
use Rattle.items.proofs.fetching.fetch.Goals.{then-n-le-LOOKAHEAD_AREA, else-n-le-LOOKAHEAD_AREA}
use Rattle.items.proofs.fetching.fetch.Goals as goal

pub returns-then-left-cost : goal.returns-then-left-cost
returns-then-left-cost c =
    let words : c.div_ceil-cost.result ≡ (c.args.n + 1) / 2 = omega (arith, c.div_ceil-cost.ensures) in
    rw c.short.ensures (ways.fetch_short c.args.left _ _ _ _ _ _ (rw words at c.if-left-cost.true), (c.requires.0.sound, unmoved.stays _ _ _ _))

pub returns : goal.returns
returns c =
    let words : c.div_ceil-cost.result ≡ (c.args.n + 1) / 2 = omega (arith, c.div_ceil-cost.ensures) in
    let some = rw words at c.if-left-cost.false in
    elim c.if-n-le-LOOKAHEAD_AREA.branch [
      | then-n-le-LOOKAHEAD_AREA t ↦
          let e = t.read_frame-read.ensures in
          rw (c.ended.ensures, t.look-is, t.frame-is, words) (let u = ways.fetch_look c.args.left _ _ _ _ _ some _ _ _ e.stands.shows (wrote _ (rw t.read-is at c.discard-end.ensures)) _ _ t.if-n-le-LOOKAHEAD_AREA.true e.laid in (u, (c.discard-end.ensures.sound, unmoved.begun _ _ _ _ _ _ u refl)))
      | else-n-le-LOOKAHEAD_AREA t ↦
          let e = t.read_frame-read-else-n-le-LOOKAHEAD_AREA.ensures in
          rw (c.ended.ensures, t.look-is, t.frame-is, words) (let u = ways.fetch_frame c.args.left _ _ _ _ _ some _ _ _ e.stands.shows (wrote _ (rw t.read-is at c.discard-end.ensures)) _ _ t.if-n-le-LOOKAHEAD_AREA.false e.laid in (u, (c.discard-end.ensures.sound, unmoved.begun _ _ _ _ _ _ u refl)))
    ]
