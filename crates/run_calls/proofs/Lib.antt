-- Why the calls take the steps.
pub mod All
pub mod Card
pub mod Driver
pub mod Good
pub mod OneTest
