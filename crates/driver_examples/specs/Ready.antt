-- A card that the ID port has activated and the driver has opened, and frames on its wire. Assumes nothing.
use Rattle.std.specs.Prelude.{Bool, true, ℕ, zero, suc, replicate}
use Rattle.port_rules.specs.Card.{activated}
use Rattle.card_rules.specs.Adapter.{Adapter}
use Rattle.card_rules.specs.Update.{with_id}
use Rattle.card_rules.specs.Power.{power_on}
use Rattle.card_rules.specs.Event.{wire_start, wire_byte, wire_end}
use Rattle.driver_rules.specs.declared.Driver.{Driver}
use Rattle.driver_rules.specs.Driver.{never_opened}
use Rattle.driver_rules.specs.Talk.{Ran, run}
use Rattle.driver_rules.specs.Open.{Opening, open_talk}

-- a power-on card with words of zero, activated
unfoldable pub on : Adapter
on = let a = power_on (replicate 64 0) 0 in with_id (activated 0 a.id) a

-- opened with the address 00 00 00 00 00 00
unfoldable pub opens : Ran Opening
opens = run (open_talk never_opened 0 0 0) on

abbrev pub ready : Adapter
ready = opens.adapter

abbrev pub opened : Driver
opened = opens.answer.driver

-- n zero bytes come after the first eight
unfoldable pub bytes : ℕ → Adapter → Adapter
bytes zero a = a
bytes (suc n) a = bytes n (wire_byte 0 a)

unfoldable pub frame : ℕ → Bool → Adapter → Adapter
frame n check a = wire_end check true (bytes n (wire_start (replicate 8 0) a))
