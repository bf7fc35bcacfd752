-- Why every step keeps soundness, with an example; laws of runs one after the other; what an open sets for all that comes after it; and why a least threshold moves no RX Early.
pub mod Append
pub mod AsBefore
pub mod EarlyExamples
pub mod Examples
pub mod Kept
pub mod Opened
pub mod Raised
pub mod Status
pub mod Talks
