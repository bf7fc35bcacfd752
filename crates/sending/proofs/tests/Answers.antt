-- `sending::tests`: each test is a law of Ways. Assumes nothing.
use borrow.Author.Tests.{not-true}
use Rattle.std.proofs.Common.{sym, refl, ◌∙◌, arith}
use Rattle.driver_rules.proofs.Runs.{gave}
use Rattle.driver_rules.proofs.SendWays as ways
use Rattle.sending.proofs.tests.Goals as goal

pub returns-then-not-d : goal.returns-then-not-d
returns-then-not-d c =
    let A = c.args in ways.unopened A.d A.packet.now A.c A.ram.now A.dir.now (not-true _ c.if-not-d.true)

pub returns-then-is_outside : goal.returns-then-is_outside
returns-then-is_outside c =
    let A = c.args in ways.misfits A.d A.packet.now A.c A.ram.now A.dir.now (grind arith) (sym c.is_outside.ensures ∙ c.if-is_outside.true)

pub returns-then-d-ge-MOST_UNREPORTED : goal.returns-then-d-ge-MOST_UNREPORTED
returns-then-d-ge-MOST_UNREPORTED c =
    let A = c.args in ways.many A.d A.packet.now A.c A.ram.now A.dir.now (grind arith) (grind arith) (omega (arith, c.if-d-ge-MOST_UNREPORTED.true))

pub returns-then-is_unfit : goal.returns-then-is_unfit
returns-then-is_unfit c =
    let A = c.args in ways.unfits A.d A.packet.now A.c A.ram.now A.dir.now (grind arith) (grind arith) (omega (arith, c.if-d-ge-MOST_UNREPORTED.false)) _ _ (gave c.read_word-status.ensures) (sym c.is_unfit.ensures ∙ c.if-is_unfit.true)

pub lacks_room-requires : goal.lacks_room-requires
lacks_room-requires c =
    ways.not-long _ (grind arith)

pub returns-then-lacks_room : goal.returns-then-lacks_room
returns-then-lacks_room c =
    let A = c.args in ways.full A.d A.packet.now A.c A.ram.now A.dir.now (grind arith) (grind arith) (omega (arith, c.if-d-ge-MOST_UNREPORTED.false)) _ _ (gave c.read_word-status.ensures) (sym c.is_unfit.ensures ∙ c.if-is_unfit.false) _ _ (gave c.read_word-free.ensures) (sym c.lacks_room.ensures ∙ c.if-lacks_room.true)

pub returns : goal.returns
returns c =
    let A = c.args in ways.passed A.d A.packet.now A.c A.ram.now A.dir.now (grind arith) (grind arith) (omega (arith, c.if-d-ge-MOST_UNREPORTED.false)) _ _ (gave c.read_word-status.ensures) (sym c.is_unfit.ensures ∙ c.if-is_unfit.false) _ _ (gave c.read_word-free.ensures) (sym c.lacks_room.ensures ∙ c.if-lacks_room.false) _ c.read_word-free.ensures.stands.sound refl
