-- `window_write::eeprom` meets its contract: without the low byte nothing is done, and a command changes the ID state and the EEPROM's registers.
-- Assumes nothing.
use Rattle.card_rules.specs.View.{view}
use Rattle.card_rules.proofs.Groups.{is_id, is_prom}
use Rattle.window_write.proofs.eeprom.Goals as goal

pub returns : goal.returns
unfolding view
returns c ram dir h =
    rw (
      ← c.covers_low.ensures,
      c.if-not-covers_low.false,
      c.prom_command.ensures,
    )
    (is_prom _ ram dir (is_id _ ram dir h _).held _)
