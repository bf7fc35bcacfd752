-- `driver::open`: refused, or the inner call, by the laws of Ways. Assumes nothing.
use mathlib.Core.Path.{sym, ◌∙◌}
use Rattle.driver_rules.proofs.Ways as ways
use borrow.Author.Rules.{rules}
use Rattle.driver.proofs.open.Goals as goal

pub returns-then-not-is_sound : goal.returns-then-not-is_sound
returns-then-not-is_sound c =
    let A = c.args in ways.open_unsound A.c A.ram.now A.dir.now A.d A.w0 A.w1 A.w2 (sym c.is_sound.ensures ∙ c.if-not-is_sound.true)

pub open-requires : goal.open-requires
open-requires c =
    let A = c.args in ways.state-told A.c A.ram.now A.dir.now A.d (search rules) (search rules) (sym c.is_sound.ensures ∙ c.if-not-is_sound.false)

pub returns : goal.returns
returns c =
    let A = c.args in ways.open_sound A.c A.ram.now A.dir.now A.d A.w0 A.w1 A.w2 _ _ _ (sym c.is_sound.ensures ∙ c.if-not-is_sound.false) c.«open».ensures
