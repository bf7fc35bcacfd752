-- What the covered steps of the calls over a lent slice promise.
pub mod Roll
pub mod Steps
