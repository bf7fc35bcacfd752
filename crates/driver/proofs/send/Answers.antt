-- `driver::send`: refused, or the inner call, by the laws of Ways. Assumes nothing.
use mathlib.Core.Path.{sym, ◌∙◌}
use Rattle.driver_rules.proofs.Ways as ways
use borrow.Author.Rules.{rules}
use Rattle.driver.proofs.send.Goals as goal

pub returns-then-not-is_sound : goal.returns-then-not-is_sound
returns-then-not-is_sound c =
    let A = c.args in rw c.refused.ensures (ways.send-unsound A.c A.ram.now A.dir.now A.d A.packet.now (sym c.is_sound.ensures ∙ c.if-not-is_sound.true))

pub send-requires : goal.send-requires
send-requires c =
    let A = c.args in ways.state-told A.c A.ram.now A.dir.now A.d (search rules) (search rules) (sym c.is_sound.ensures ∙ c.if-not-is_sound.false)

pub returns : goal.returns
returns c =
    let A = c.args in ways.send-sound A.c A.ram.now A.dir.now A.d A.packet.now _ _ _ (sym c.is_sound.ensures ∙ c.if-not-is_sound.false) c.send.ensures
