-- `seating::seat` meets its contract, by the laws of a seated ID state. Assumes nothing.
use Rattle.card_rules.proofs.Seats.{seats_reset, seats_plain}
use Rattle.steps.proofs.seating.seat.Goals as goal

pub returns-then-i : goal.returns-then-i
returns-then-i c = seats_reset c.args.c _ _ _ c.if-i.true c.deafen.ensures c.power_on.ensures

pub returns : goal.returns
returns c = seats_plain c.args.c _ c.if-i.false
