-- The cards before this one are stepped.
-- Assumes nothing.
use Rattle.std.proofs.Common.{◌≡◌}
use Rattle.bits.specs.UpTo.{up_to}
use Rattle.port_rules.specs.declared.IdState.{IdState}
use Rattle.lent_port.proofs.look.each.Given as goal

abbrev pub invariant-loop-card : goal.invariant-loop-card
invariant-loop-card g l = (f : IdState → IdState) → ((s r : IdState) → goal.F-post g l.step s r → r ≡ f s) → l.cards ≡ up_to f l.card-index l.initial.cards
