-- What the promise of demand 2, of received frames, cites: the statement is in Carried.
pub mod Brings
pub mod Bytes
pub mod Carried
pub mod Reads
pub mod Host
