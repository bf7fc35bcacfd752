-- `carried` meets its contract: the fold comes to the definition's least bit.
-- Assumes nothing.
use Rattle.std.proofs.Common.{◌≡◌, ◌∙◌, rules, min}
use Rattle.std.specs.List.{fold}
use Rattle.port_rules.specs.Card.{id_bit}
use Rattle.lent_port.proofs.Loops.{carried-folded}
use Rattle.lent_port.proofs.look.carried.Goals as goal

pub returns : goal.returns
returns c = let e : c.fold.result ≡ fold (λ b s. min b (id_bit s c.args.x)) 1 c.args.cards.now = search rules in e ∙ carried-folded _ _
