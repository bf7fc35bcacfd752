-- What the promise of demand 3 cites.
pub mod Examples
pub mod NoTrace
pub mod Stretch
pub mod Wrong
