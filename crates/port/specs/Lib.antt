-- What a call by value makes of a call over a slice.
pub mod Lent
