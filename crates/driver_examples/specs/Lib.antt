-- Worked examples of the driver.
pub mod Ready
pub mod Send
pub mod Service
