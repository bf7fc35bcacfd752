-- Cites the law. Assumes nothing.
use Rattle.port_rules.proofs.Keep.{every_step_keeps_soundness_lem}
use Rattle.idport.proofs.every_step_keeps_soundness.Goals as goal

pub returns : goal.returns
returns c = every_step_keeps_soundness_lem
