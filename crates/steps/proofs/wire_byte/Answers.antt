-- `steps::wire_byte` meets its contract: the receive side takes the byte, by the law `rx-does`, and the card is settled. Assumes nothing.
use Rattle.receive_rules.specs.Wire as wire
use Rattle.card_rules.specs.View.{view}
use Rattle.card_rules.specs.Event.{wire_byte}
use Rattle.card_rules.proofs.Join.{rx-does}
use Rattle.card_rules.proofs.Sides.{rx_sound_at}
use Rattle.card_rules.proofs.StepKeeps.{wire-byte-keeps}
use Rattle.card_rules.proofs.StepEnds.{unsettled, settled_as}
use Rattle.steps.proofs.wire_byte.Goals as goal

pub wire_byte-requires : goal.wire_byte-requires
wire_byte-requires c = rx_sound_at _ _ _ _ c.rx_size.ensures.0 c.requires

pub settle-requires : goal.settle-requires
unfolding view
settle-requires c =
    unsettled _ _ _ _ (rx-does c.args.c _ _ _ _ c.requires.held (λ n. wire.wire_byte n c.args.b) _ c.args.c.receive c.rx_size.ensures.0 c.wire_byte.ensures)
    (wire-byte-keeps (view c.args.c c.args.ram.now c.args.dir.now) c.requires.calm _)

pub returns : goal.returns
unfolding wire_byte view
returns c =
    settled_as _ _ _ _ _ (rx-does c.args.c _ _ _ _ c.requires.held (λ n. wire.wire_byte n c.args.b) _ c.args.c.receive c.rx_size.ensures.0 c.wire_byte.ensures) c.settle.ensures
