-- What the contracts of `catalogue_row` cite.
pub mod Back
pub mod Row
