-- Every answer in numbers: a code is 0 for done, else the paper's number of the refusal; a value that a refused call does not have is 0.
-- Assumes nothing.
use Rattle.std.specs.Prelude.{ℕ, pos, Result, Ok, Err, ⊤}
use Rattle.std.specs.Result.{result_unwrap_or}
use Rattle.refusal.specs.declared.Refusal.{Refusal}
use Rattle.refusal.specs.Number.{number_of}
use Rattle.image_rules.specs.declared.Node.{Node}
use Rattle.card_rules.specs.declared.After.{After as AfterCard}
use Rattle.card_rules.specs.declared.RxStatus.{RxStatus}
use Rattle.port_rules.specs.declared.After.{After as AfterPort}
use Rattle.port_rules.specs.declared.AfterSearch.{AfterSearch}
use Rattle.port_rules.specs.declared.Cards.{Cards}
use Rattle.driver_rules.specs.declared.After.{After as AfterDriver}
use Rattle.driver_rules.specs.declared.Item.{Item}
use Rattle.driver_rules.specs.declared.Item.TheVariants.{Reported, Status, Frame, Idle}
use Rattle.driver_rules.specs.declared.Serviced.{Serviced}
use Rattle.driver_rules.specs.HandUp.{area as area_of}
use Rattle.codes.specs.declared.cards.CardDone.{CardDone}
use Rattle.codes.specs.declared.cards.CardLine.{CardLine}
use Rattle.codes.specs.declared.cards.CardRead.{CardRead}
use Rattle.codes.specs.declared.cards.CardTold.{CardTold}
use Rattle.codes.specs.declared.cards.CardRxStatus.{CardRxStatus}
use Rattle.codes.specs.declared.ports.BusFound.{BusFound}
use Rattle.codes.specs.declared.ports.BusDone.{BusDone}
use Rattle.codes.specs.declared.drivers.DriverDone.{DriverDone}
use Rattle.codes.specs.declared.drivers.DriverSent.{DriverSent}
use Rattle.codes.specs.declared.drivers.DriverServed.{DriverServed}
use Rattle.codes.specs.declared.drivers.Service.{Service}
use Rattle.codes.specs.declared.drivers.HandedUp.{HandedUp}
use Rattle.codes.specs.declared.images.ImageChecked.{ImageChecked}

-- The code of an answer, whatever it tells.
abbrev pub code : {T : Type 0} → Result T Refusal → ℕ
code (Ok x) = 0
code (Err why) = number_of why

-- The number that an answer tells: a value read, the bytes told to the wire, a ticket, the accesses used.
abbrev pub value : Result ℕ Refusal → ℕ
value a = result_unwrap_or a 0

-- ---- the card

abbrev pub coded_done : AfterCard ⊤ → CardDone
coded_done x = record { card = x.card; code = code x.answer }

abbrev pub coded_read : AfterCard ℕ → CardRead
coded_read x = record { card = x.card; value = value x.answer; code = code x.answer }

abbrev pub coded_told : AfterCard ℕ → CardTold
coded_told x = record { card = x.card; n = value x.answer; code = code x.answer }

abbrev pub coded_line : Result ℕ Refusal → CardLine
coded_line x = record { line = value x; code = code x }

abbrev pub rx_told : Result RxStatus Refusal → RxStatus
rx_told x = result_unwrap_or x (record { word = 0; unread = pos 0 })

abbrev pub coded_rx_status : Result RxStatus Refusal → CardRxStatus
coded_rx_status x = record { word = (rx_told x).word; unread = (rx_told x).unread; code = code x }

-- ---- several cards on one ID port

abbrev pub found : Result Cards Refusal → Cards
found x = result_unwrap_or x (record { count = 0; accesses = 0 })

abbrev pub coded_found : AfterSearch → BusFound
coded_found x = record { bus = x.bus; addresses = x.addresses; count = (found x.answer).count; accesses = (found x.answer).accesses; code = code x.answer }

abbrev pub coded_activated : AfterPort ℕ → BusDone
coded_activated x = record { bus = x.bus; accesses = value x.answer; code = code x.answer }

-- ---- the driver

abbrev pub coded_opened : AfterDriver ⊤ → DriverDone
coded_opened x = record { card = x.card; driver = x.driver; code = code x.answer }

abbrev pub coded_sent : AfterDriver ℕ → DriverSent
coded_sent x = record { card = x.card; driver = x.driver; ticket = value x.answer; code = code x.answer }

-- A kind: 0 refused, 1 a report, 2 a status alone, 3 a frame, 4 idle.
abbrev pub service_told : Result Item Refusal → Service
service_told (Ok (Reported t s)) = record { kind = 1; code = 0; ticket = t; status = s; n = 0 }
service_told (Ok (Status s)) = record { kind = 2; code = 0; ticket = 0; status = s; n = 0 }
service_told (Ok (Frame n)) = record { kind = 3; code = 0; ticket = 0; status = 0; n = n }
service_told (Ok Idle) = record { kind = 4; code = 0; ticket = 0; status = 0; n = 0 }
service_told (Err why) = record { kind = 0; code = number_of why; ticket = 0; status = 0; n = 0 }

abbrev pub coded_served : Serviced → DriverServed
coded_served x = record { card = x.card; driver = x.driver; answer = service_told x.answer; accesses = x.used }

-- The part that a frame of n bytes is handed up in: 1 the lookahead area or 2 the frame area, and its length.
abbrev pub coded_part : ℕ → ℕ → HandedUp
coded_part n len = record { area = area_of n 1 2; n = len }

-- ---- the image check

abbrev pub coded_check : Result Node Refusal → ImageChecked
coded_check (Ok node) = record { node0 = node.node0; node1 = node.node1; node2 = node.node2; code = 0 }
coded_check (Err why) = record { node0 = 0; node1 = 0; node2 = 0; code = number_of why }
