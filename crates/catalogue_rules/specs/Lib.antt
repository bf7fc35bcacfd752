-- The catalogue: tagged fields, a file's meaning and its check, the round trips, looking cards up, archives, the changes, and what a change writes.
-- tagged fields
pub mod Field
-- a file: its meaning and its check
pub mod Turns
pub mod Reading
pub mod Cards
pub mod FileWalk
pub mod FileContracts
-- what is proved of a file
pub mod RoundTrip
-- looking cards up
pub mod Lookup
pub mod Places
pub mod LookupWalk
pub mod LookupContracts
-- today's archive, moved in and written out
pub mod Archive
-- the changes
pub mod Edit
pub mod Unknown
-- what a change writes
pub mod Put
pub mod PutContracts
