-- A card with one group changed: all the rest is as it was. Made by tools/updates. Assumes nothing.
use Rattle.port_rules.specs.declared.IdState.{IdState}
use Rattle.receive_rules.specs.declared.Receiver.{Receiver}
use Rattle.receive_rules.specs.declared.Receive.{Receive}
use Rattle.transmit_rules.specs.declared.Outcomes.{Outcomes}
use Rattle.transmit_rules.specs.declared.Transmit.{Transmit}
use Rattle.card_rules.specs.declared.Select.{Select}
use Rattle.card_rules.specs.declared.Lines.{Lines}
use Rattle.card_rules.specs.declared.Config.{Config}
use Rattle.card_rules.specs.declared.Prom.{Prom}
use Rattle.card_rules.specs.declared.Card.{Card}

abbrev pub card_id : IdState → Card → Card
card_id v c = record { id = v; select = c.select; lines = c.lines; config = c.config; prom = c.prom; receive = c.receive; transmit = c.transmit }

abbrev pub card_select : Select → Card → Card
card_select v c = record { id = c.id; select = v; lines = c.lines; config = c.config; prom = c.prom; receive = c.receive; transmit = c.transmit }

abbrev pub card_lines : Lines → Card → Card
card_lines v c = record { id = c.id; select = c.select; lines = v; config = c.config; prom = c.prom; receive = c.receive; transmit = c.transmit }

abbrev pub card_config : Config → Card → Card
card_config v c = record { id = c.id; select = c.select; lines = c.lines; config = v; prom = c.prom; receive = c.receive; transmit = c.transmit }

abbrev pub card_prom : Prom → Card → Card
card_prom v c = record { id = c.id; select = c.select; lines = c.lines; config = c.config; prom = v; receive = c.receive; transmit = c.transmit }

abbrev pub card_receive : Receive → Card → Card
card_receive v c = record { id = c.id; select = c.select; lines = c.lines; config = c.config; prom = c.prom; receive = v; transmit = c.transmit }

abbrev pub card_transmit : Transmit → Card → Card
card_transmit v c = record { id = c.id; select = c.select; lines = c.lines; config = c.config; prom = c.prom; receive = c.receive; transmit = v }

-- the receive side with other registers, and the transmit side with other outcomes
abbrev pub card_receiver : Receiver → Card → Card
card_receiver v c = card_receive (record { receiver = v; frames = c.receive.frames }) c

abbrev pub card_outcomes : Outcomes → Card → Card
card_outcomes v c = card_transmit (record { fifo = c.transmit.fifo; outcomes = v }) c
