--
pub mod Lender
