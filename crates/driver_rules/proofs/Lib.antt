-- Laws and worked examples.
-- registers and commands, trees of accesses and their runs, the driver's state
pub mod Runs
pub mod Reading
pub mod Status
pub mod Count
pub mod TalkExamples
-- the items of a service
pub mod ItemWays
pub mod ItemsExamples
-- a service
pub mod ServiceWays
pub mod Unmoved
pub mod ServiceExamples
-- when refusal 5 comes
pub mod Unfit
-- a whole service
pub mod Going
pub mod ServingUnmoved
pub mod ServingExamples
-- open
pub mod OpenWays
pub mod OpeningExamples
-- send
pub mod SendWays
pub mod SendingExamples
-- the public calls
pub mod Ways
pub mod Keeps
pub mod HandUp
pub mod DriverExamples
