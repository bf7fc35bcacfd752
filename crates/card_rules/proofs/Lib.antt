-- Laws and worked examples.
-- the adapter, in the order of document 01's section "Registers"
pub mod Ranges
pub mod Groups
pub mod Blank
pub mod Active
pub mod Join
pub mod Sides
pub mod Ends
pub mod Quiet
pub mod Checked
pub mod RegsExamples
mod LineExamples
-- EEPROM commands
pub mod SetupExamples
-- the commands
pub mod Effects
pub mod CommandKeeps
pub mod CommandsExamples
-- the reads
pub mod Free
pub mod In
pub mod WindowReadExamples
-- the writes
pub mod WindowWriteExamples
pub mod Split
pub mod Tests
pub mod Windows
-- the steps before they are settled
pub mod Written
pub mod EffectSides
pub mod EffectsExamples
-- a seated ID state
pub mod Seats
pub mod SeatingExamples
-- accesses and events
pub mod StepsExamples
pub mod StepKeeps
pub mod StepEnds
-- RX Status without an access
mod RxStatusExamples
-- the tests of the calls
mod CardTestsExamples
-- the public calls
pub mod Judged
pub mod Power
pub mod CardExamples
