-- The bench table's card is what the ID port makes of a power-on card. Assumes nothing.
use mathlib.Core.Path.{◌≡◌, refl}
use mathlib.Core.List.{List, [], ◌∷◌, ◌++◌, map}
use Prim.Native.Nat.{ℕ}
use native.Mathlib.Omega.{arith}
use lib.ListN.{replicate}
use Rattle.port_rules.specs.Card.{id_write, id_wait, id_command, expected}
use Rattle.port_rules.specs.Sequence.{id_byte, id_next}
use Rattle.receive_rules.specs.Early.{early_flag, told_flag}
use Rattle.receive_rules.specs.Reading.{complete}
use Rattle.transmit_rules.specs.Queue as queue
use Rattle.transmit_rules.specs.Outcome.{some, due}
use Rattle.card_rules.specs.Room.{tx_size, rx_size}
use Rattle.card_rules.specs.Status.{interrupting}
use Rattle.card_rules.specs.Settle.{settle}
use Rattle.card_rules.specs.Power.{power_on}
use Rattle.card_rules.specs.Event.{seat, seated}
use Rattle.port_rules.specs.Search.{id_bytes}
use Rattle.runs.specs.Run.{Earlier, IdWrite, before, since}
use Rattle.runs.specs.Sound.{fresh}
use Rattle.no_trace.specs.Examples.{start}

abbrev writes : List ℕ → List Earlier
writes bytes = map (λ v. IdWrite 1 (omega arith) v) bytes

reached : since (writes ((0 ∷ 0 ∷ []) ++ (id_bytes 0 255 ++ (0xFF ∷ [])))) (fresh (replicate 64 0)) ≡ start
unfolding since before start power_on seat seated settle id_write id_wait id_command expected id_byte id_next id_bytes early_flag told_flag complete queue.free queue.room some due tx_size rx_size interrupting
reached = refl
