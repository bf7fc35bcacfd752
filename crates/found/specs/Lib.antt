-- What the promises of the search and the activation say.
pub mod OneCard
pub mod Theorems
