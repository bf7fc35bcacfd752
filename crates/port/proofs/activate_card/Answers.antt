-- `activate_card` meets its contract: the call over the cards that are there, joined to the places past them, is the call by value.
-- Assumes nothing.
use Rattle.std.proofs.Common.{◌≡◌, length, refl, ap, Err, rules, [], Bool, ◌&&◌}
use Rattle.port_rules.specs.Calls.{activation_reply, padded, allowed, naming, digit_of}
use Rattle.lent_port.proofs.Slices.{activating}
use Rattle.bits.proofs.Tests.{both}
use Rattle.port.proofs.Lender.{called, fits}
use Rattle.port.proofs.activate_card.Goals as goal

pub returns : goal.returns
returns c =
    let l : length c.args.b.cards ≡ 8 = search rules in
    called activation_reply (λ u. padded []) (activating (digit_of c.args.port) c.args.tag c.args.base) (λ d. allowed d c.args.port && naming c.args.tag c.args.base) c.args.b _ c.args.port _ l (λ h. ap (λ (k : Bool). k && naming c.args.tag c.args.base) (fits _ _ h l)) (λ a. (both _ _ a).0)
    (record {
      lent = λ h. let (zs, p, q) = c.call-answer.ensures.lent h in (zs, search rules, q);
      crowded = λ h. let (why, p, n, q) = c.call-answer.ensures.crowded h in let e : _ ≡ Err why = search rules in (why, (ap activation_reply e, refl), n, q);
    })
