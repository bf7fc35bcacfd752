-- A place whose byte is expected is below 255, so that the next place fits.
-- Assumes nothing.
use Rattle.std.proofs.Common.{sym, ◌∙◌, arith}
use Rattle.port_rules.proofs.Keep.{expected-below}
use Rattle.idport.proofs.wait.listen.Goals as goal

pub overflow_add-result : goal.overflow_add-result
overflow_add-result c = omega (arith, expected-below _ _ (sym c.is_expected.ensures ∙ c.if-not-is_expected.false))
