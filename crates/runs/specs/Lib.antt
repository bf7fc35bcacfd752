-- What the promises over runs cite.
pub mod AsGiven
pub mod Early
pub mod Run
pub mod Sound
