-- The laws, bottom up: writes to all cards, the sequence, a contention, order, a round, the rounds; then the theorems.
pub mod Activate
pub mod Called
pub mod Contend
pub mod Ends
pub mod Example
pub mod Found
pub mod Round
pub mod Rounds
pub mod Run
pub mod Sort
pub mod Sound
pub mod Zeros
