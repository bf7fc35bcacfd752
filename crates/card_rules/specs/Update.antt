-- An adapter with one group, or a group with one field, changed: all the rest is as it was. Made by tools/updates. Assumes nothing.
use Rattle.std.specs.Prelude.{ℕ, Bool, List}
use Rattle.port_rules.specs.declared.IdState.{IdState}
use Rattle.card_rules.specs.declared.Select.{Select}
use Rattle.card_rules.specs.declared.Lines.{Lines}
use Rattle.card_rules.specs.declared.Config.{Config}
use Rattle.card_rules.specs.declared.Prom.{Prom}
use Rattle.receive_rules.specs.Frame.{Rx}
use Rattle.transmit_rules.specs.Tx.{Tx}
use Rattle.card_rules.specs.Adapter.{Adapter}

abbrev pub with_id : IdState → Adapter → Adapter
with_id v a = record { id = v; select = a.select; lines = a.lines; config = a.config; prom = a.prom; rx = a.rx; tx = a.tx }

abbrev pub with_select : Select → Adapter → Adapter
with_select v a = record { id = a.id; select = v; lines = a.lines; config = a.config; prom = a.prom; rx = a.rx; tx = a.tx }

abbrev pub with_lines : Lines → Adapter → Adapter
with_lines v a = record { id = a.id; select = a.select; lines = v; config = a.config; prom = a.prom; rx = a.rx; tx = a.tx }

abbrev pub with_config : Config → Adapter → Adapter
with_config v a = record { id = a.id; select = a.select; lines = a.lines; config = v; prom = a.prom; rx = a.rx; tx = a.tx }

abbrev pub with_prom : Prom → Adapter → Adapter
with_prom v a = record { id = a.id; select = a.select; lines = a.lines; config = a.config; prom = v; rx = a.rx; tx = a.tx }

abbrev pub with_rx : Rx → Adapter → Adapter
with_rx v a = record { id = a.id; select = a.select; lines = a.lines; config = a.config; prom = a.prom; rx = v; tx = a.tx }

abbrev pub with_tx : Tx → Adapter → Adapter
with_tx v a = record { id = a.id; select = a.select; lines = a.lines; config = a.config; prom = a.prom; rx = a.rx; tx = v }

abbrev pub id_shift : ℕ → IdState → IdState
id_shift v g = record { command = g.command; port = g.port; at = g.at; tag = g.tag; shift = v; address = g.address; active = g.active; due = g.due; words = g.words }

abbrev pub id_address : ℕ → IdState → IdState
id_address v g = record { command = g.command; port = g.port; at = g.at; tag = g.tag; shift = g.shift; address = v; active = g.active; due = g.due; words = g.words }

abbrev pub id_due : Bool → IdState → IdState
id_due v g = record { command = g.command; port = g.port; at = g.at; tag = g.tag; shift = g.shift; address = g.address; active = g.active; due = v; words = g.words }

abbrev pub id_words : List ℕ → IdState → IdState
id_words v g = record { command = g.command; port = g.port; at = g.at; tag = g.tag; shift = g.shift; address = g.address; active = g.active; due = g.due; words = v }

abbrev pub select_window : ℕ → Select → Select
select_window v g = record { window = v; mask = g.mask; zero = g.zero; filter = g.filter }

abbrev pub select_mask : ℕ → Select → Select
select_mask v g = record { window = g.window; mask = v; zero = g.zero; filter = g.filter }

abbrev pub select_zero : ℕ → Select → Select
select_zero v g = record { window = g.window; mask = g.mask; zero = v; filter = g.filter }

abbrev pub select_filter : ℕ → Select → Select
select_filter v g = record { window = g.window; mask = g.mask; zero = g.zero; filter = v }

abbrev pub lines_latch : Bool → Lines → Lines
lines_latch v g = record { latch = v; requested = g.requested; low = g.low }

abbrev pub lines_requested : Bool → Lines → Lines
lines_requested v g = record { latch = g.latch; requested = v; low = g.low }

abbrev pub lines_low : ℕ → Lines → Lines
lines_low v g = record { latch = g.latch; requested = g.requested; low = v }

abbrev pub config_resource : ℕ → Config → Config
config_resource v g = record { product = g.product; resource = v; enabled = g.enabled; first = g.first; second = g.second; station = g.station }

abbrev pub config_enabled : Bool → Config → Config
config_enabled v g = record { product = g.product; resource = g.resource; enabled = v; first = g.first; second = g.second; station = g.station }

abbrev pub config_first : ℕ → Config → Config
config_first v g = record { product = g.product; resource = g.resource; enabled = g.enabled; first = v; second = g.second; station = g.station }

abbrev pub config_second : ℕ → Config → Config
config_second v g = record { product = g.product; resource = g.resource; enabled = g.enabled; first = g.first; second = v; station = g.station }

abbrev pub config_station : List ℕ → Config → Config
config_station v g = record { product = g.product; resource = g.resource; enabled = g.enabled; first = g.first; second = g.second; station = v }
