-- The card: its registers and Status, power-on, EEPROM commands, the commands, the register map, the steps, and the public calls' answers.
-- the adapter, in the order of document 01's section "Registers"
pub mod Adapter
pub mod Update
pub mod Room
pub mod Status
pub mod Settle
pub mod Power
pub mod Sound
pub mod Line
pub mod Groups
pub mod View
-- EEPROM commands
pub mod Eeprom
-- the commands
pub mod Command
-- the reads
pub mod Read
-- the writes
pub mod Write
-- the steps before they are settled
pub mod Effect
-- a seated ID state
pub mod Seat
-- accesses and events
pub mod Access
pub mod Event
pub mod Gives
-- RX Status without an access
pub mod RxStatus
-- the tests of the calls
pub mod Tests
-- the public calls
pub mod Calls
pub mod CardContracts
