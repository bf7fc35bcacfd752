-- Why what the wire brings is what the host reads.
pub mod Arrive
pub mod Events
pub mod Example
pub mod Fetch
pub mod Good
pub mod Memory
pub mod NoneLeft
pub mod One
pub mod OneLess
pub mod Service
pub mod Still
pub mod Host
