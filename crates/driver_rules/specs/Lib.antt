-- The driver: calls as trees of accesses, its state, open, send, the items of a service, a whole service, hand_up.
-- registers and commands, trees of accesses and their runs, the driver's state
pub mod Registers
pub mod Talk
pub mod Driver
pub mod Packet
-- the items of a service
pub mod Items
pub mod Areas
pub mod Meets
-- a service
pub mod Service
pub mod Serves
-- when refusal 5 comes
pub mod Unfit
-- a whole service
pub mod Serving
-- open
pub mod Open
pub mod Opens
-- send
pub mod Send
pub mod Sends
-- the public calls
pub mod Calls
pub mod Paper
pub mod HandUp
