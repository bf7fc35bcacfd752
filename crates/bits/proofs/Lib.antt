-- Laws and worked examples.
-- laws that several crates cite
pub mod Tests
pub mod UpTo
