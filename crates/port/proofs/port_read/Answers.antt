-- `port_read` meets its contract: the call over the cards that are there, joined to the places past them, is the call by value.
-- Assumes nothing.
use Rattle.std.proofs.Common.{◌≡◌, length, refl, ap, Err, rules, []}
use Rattle.port_rules.specs.Calls.{bit_reply, padded, allowed, digit_of}
use Rattle.lent_port.proofs.Slices.{reading}
use Rattle.port.proofs.Lender.{called, fits}
use Rattle.port.proofs.port_read.Goals as goal

pub returns : goal.returns
returns c =
    let l : length c.args.b.cards ≡ 8 = search rules in
    called bit_reply (λ u. padded []) (reading (digit_of c.args.port)) (λ d. allowed d c.args.port) c.args.b _ c.args.port _ l (λ h. fits _ _ h l) (λ a. a)
    (record {
      lent = λ h. let (zs, p, q) = c.call-answer.ensures.lent h in (zs, search rules, q);
      crowded = λ h. let (why, p, n, q) = c.call-answer.ensures.crowded h in let e : _ ≡ Err why = search rules in (why, (ap bit_reply e, refl), n, q);
    })
