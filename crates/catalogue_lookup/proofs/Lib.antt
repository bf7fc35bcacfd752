-- Laws of the versions behind a card that was found.
pub mod Behind
