-- What the contracts of `catalogue_drop` cite.
pub mod Around
