-- The adapter as a reader sees it: its registers in groups, the receive side and the transmit side. Assumes nothing.
use Rattle.port_rules.specs.declared.IdState.{IdState}
use Rattle.receive_rules.specs.Frame.{Rx}
use Rattle.transmit_rules.specs.Tx.{Tx}
use Rattle.card_rules.specs.declared.Select.{Select}
use Rattle.card_rules.specs.declared.Lines.{Lines}
use Rattle.card_rules.specs.declared.Config.{Config}
use Rattle.card_rules.specs.declared.Prom.{Prom}

pub record Adapter : Type 0 where
  pub id : IdState
  pub select : Select
  pub lines : Lines
  pub config : Config
  pub prom : Prom
  pub rx : Rx
  pub tx : Tx
