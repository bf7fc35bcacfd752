-- Laws and worked examples.
-- tagged fields
pub mod Runs
pub mod At
pub mod Append
-- a file: its meaning and its check
pub mod Bools
pub mod Turning
pub mod Walks
pub mod Came
pub mod Closes
pub mod Seen
pub mod Checked
mod CatalogueFileExamples
-- what is proved of a file
pub mod WrittenBack
mod Back
pub mod Round
pub mod Fit
mod CatalogueLawsExamples
-- looking cards up
pub mod Versions
pub mod Spots
pub mod Accepted
pub mod Listed
pub mod Shows
pub mod Ways
mod CatalogueLookupExamples
-- today's archive, moved in and written out
pub mod OutAfter
mod ArchiveExamples
-- the changes
pub mod Changes
pub mod Kept
mod ChangesExamples
-- what a change writes
pub mod Chain
