-- `driver::service`: refused, or the inner call, by the laws of Ways. Assumes nothing.
use mathlib.Core.Path.{sym, ◌∙◌}
use borrow.Author.Tests.{not-true, not-false}
use native.Mathlib.Omega.{arith}
use Rattle.driver_rules.proofs.Ways as ways
use borrow.Author.Rules.{rules}
use Rattle.driver.proofs.service.Goals as goal

pub returns-then-not-is_sound : goal.returns-then-not-is_sound
returns-then-not-is_sound c =
    let A = c.args in rw c.refused.ensures (ways.service-unsound A.c A.ram.now A.dir.now A.d A.budget A.ahead.now A.frame.now (sym c.is_sound.ensures ∙ c.if-not-is_sound.true))

pub returns-then-not-d : goal.returns-then-not-d
returns-then-not-d c =
    let A = c.args in rw c.refused-then-not-d.ensures (ways.service-unopened A.c A.ram.now A.dir.now A.d A.budget A.ahead.now A.frame.now (sym c.is_sound.ensures ∙ c.if-not-is_sound.false) (not-true _ c.if-not-d.true))

pub returns-then-ahead-lt-LOOKAHEAD_AREA : goal.returns-then-ahead-lt-LOOKAHEAD_AREA
returns-then-ahead-lt-LOOKAHEAD_AREA c =
    let A = c.args in rw c.refused-then-ahead-lt-LOOKAHEAD_AREA.ensures (ways.service-tight A.c A.ram.now A.dir.now A.d A.budget A.ahead.now A.frame.now (sym c.is_sound.ensures ∙ c.if-not-is_sound.false) (not-false _ c.if-not-d.false) (ways.look-tight A.ahead.now A.frame.now c.if-ahead-lt-LOOKAHEAD_AREA.true))

pub returns-then-frame-lt-FRAME_AREA : goal.returns-then-frame-lt-FRAME_AREA
returns-then-frame-lt-FRAME_AREA c =
    let A = c.args in rw c.refused-then-frame-lt-FRAME_AREA.ensures (ways.service-tight A.c A.ram.now A.dir.now A.d A.budget A.ahead.now A.frame.now (sym c.is_sound.ensures ∙ c.if-not-is_sound.false) (not-false _ c.if-not-d.false) (ways.frame-tight A.ahead.now A.frame.now (omega arith) c.if-frame-lt-FRAME_AREA.true))

pub serve-requires : goal.serve-requires
serve-requires c =
    let A = c.args in record { sound = ways.state-told A.c A.ram.now A.dir.now A.d (search rules) (search rules) (sym c.is_sound.ensures ∙ c.if-not-is_sound.false); look = omega arith; frame = c.if-frame-lt-FRAME_AREA.false }

pub returns : goal.returns
returns c =
    let A = c.args in
    let e = rw c.from.ensures at c.serve.ensures in
    ways.service-run A.c A.ram.now A.dir.now A.d A.budget A.ahead.now A.frame.now (sym c.is_sound.ensures ∙ c.if-not-is_sound.false) (not-false _ c.if-not-d.false) (ways.both-large A.ahead.now A.frame.now (omega arith) c.if-frame-lt-FRAME_AREA.false) _ _ _ _ _ e.0 e.1.0 e.1.1
