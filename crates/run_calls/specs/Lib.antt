-- What the promise that the calls take the steps cites, and the one test of soundness.
pub mod Takes
pub mod OneTest
