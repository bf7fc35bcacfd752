-- What a change writes is read as the changed catalogue, and what the lookups show behind it.
-- what a change writes
pub mod Kept
-- what the lookups show behind it
pub mod After
