-- `activate` meets its contract: refused by the tests or for its arguments it changes nothing, else each card is stepped.
-- Assumes nothing.
use Rattle.std.proofs.Common.{◌≡◌, ◌∙◌, ap, sym, Err, rules}
use Rattle.port_rules.specs.Lent.{activated_over}
use Rattle.lent_port.proofs.Calls.{refuses, misnamed, named, activated-comes}
use Rattle.bits.proofs.Tests.{both}
use Rattle.lent_port.proofs.activate.Goals as goal

pub returns-in_err-tested : goal.returns-in_err-tested
returns-in_err-tested c =
    let e : c.from_residual.result ≡ Err c.in_err-tested.field-0.0 = search rules in
    ap (λ (r : _). activated_over r c.args.cards.now) e ∙ refuses _ _ _ (λ a. (both _ _ a).0) _ _ c.in_err-tested.ensures

pub returns-then-not-names : goal.returns-then-not-names
returns-then-not-names c = misnamed _ _ _ _ c.in_ok-tested.was c.tested.ensures _ _ (sym c.names.ensures ∙ c.if-not-names.true)

pub each-requires : goal.each-requires
each-requires c = let (t, b) = named _ _ (sym c.names.ensures ∙ c.if-not-names.false) in search (rules, t, b)

pub returns : goal.returns
returns c = activated-comes _ _ _ _ c.digit-x.ensures _ _ c.in_ok-tested.was c.tested.ensures _ _ (sym c.names.ensures ∙ c.if-not-names.false) (c.each.ensures _ (λ s r p. search rules))
