-- The bytes that a struct takes in memory, as the program logic lays it out. Assumes nothing.
use Rattle.std.specs.Prelude.{ℕ}
use Rattle.std.specs.Mem.{type_size}
use Rattle.card_rules.specs.contracts.Card as card_type
use Rattle.port_rules.specs.contracts.Bus as bus_type
use Rattle.driver_rules.specs.contracts.Driver as driver_type

abbrev pub card : ℕ
card = type_size card_type.the_row

abbrev pub driver : ℕ
driver = type_size driver_type.the_row

abbrev pub bus : ℕ
bus = type_size bus_type.the_row
