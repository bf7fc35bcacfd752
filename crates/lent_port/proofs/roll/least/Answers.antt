-- `least` meets its contract: the fold comes to the definition's least address.
-- Assumes nothing.
use Rattle.std.proofs.Common.{◌≡◌, ◌∙◌, rules, min}
use Rattle.std.specs.List.{fold}
use Rattle.port_rules.specs.Search.{all_ones}
use Rattle.lent_port.proofs.Loops.{least-folded}
use Rattle.lent_port.proofs.roll.least.Goals as goal

pub returns : goal.returns
returns c = let e : c.fold.result ≡ fold (λ b x. min b x) all_ones c.args.addresses = search rules in e ∙ least-folded _
