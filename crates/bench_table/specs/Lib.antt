-- What the bench table cites.
pub mod Table
