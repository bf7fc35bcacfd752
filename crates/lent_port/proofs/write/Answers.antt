-- `write` meets its contract: refused by the tests it changes nothing, else each card is stepped.
-- Assumes nothing.
use Rattle.std.proofs.Common.{◌≡◌, ◌∙◌, ap, Err, rules}
use Rattle.port_rules.specs.Lent.{wrote_over}
use Rattle.lent_port.proofs.Calls.{refuses, wrote-comes}
use Rattle.lent_port.proofs.write.Goals as goal

pub returns-in_err-tested : goal.returns-in_err-tested
returns-in_err-tested c =
    let e : c.from_residual.result ≡ Err c.in_err-tested.field-0.0 = search rules in
    ap (λ (r : _). wrote_over r c.args.cards.now) e ∙ refuses _ _ _ (λ a. a) _ _ c.in_err-tested.ensures

pub returns : goal.returns
returns c = wrote-comes _ _ _ _ c.digit-x.ensures _ _ c.in_ok-tested.was c.tested.ensures _ (c.each.ensures _ (λ s r p. search rules))
