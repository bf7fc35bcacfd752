-- `find_cards` meets its contract: the call over the cards that are there, joined to the places past them, is the call by value.
-- Assumes nothing.
use Rattle.std.proofs.Common.{◌≡◌, length, ap, Err, rules, []}
use Rattle.port_rules.specs.Calls.{found_reply, padded, allowed, digit_of}
use Rattle.lent_port.proofs.Slices.{searching}
use Rattle.port_rules.specs.declared.Listed.{Listed}
use Rattle.port.proofs.Lender.{called, fits}
use Rattle.port.proofs.find_cards.Goals as goal

pub returns : goal.returns
returns c =
    let l : length c.args.b.cards ≡ 8 = search rules in
    called (λ (u : Listed). found_reply u.answer) (λ (u : Listed). u.addresses) (searching (digit_of c.args.port)) (λ d. allowed d c.args.port) c.args.b _ c.args.port _ l (λ h. fits _ _ h l) (λ a. a)
    (record {
      lent = λ h. let (zs, p, q) = c.call.ensures.lent h in (zs, search rules, q);
      crowded = λ h. let (why, p, n, q) = c.call.ensures.crowded h in let e : _ ≡ record { answer = Err why; addresses = padded [] } = search rules in (why, (ap (λ (u : Listed). found_reply u.answer) e, ap (λ (u : Listed). u.addresses) e), n, q);
    })
