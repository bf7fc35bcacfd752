-- What the contracts of `refusal` cite.
pub mod Number
pub mod Order
pub mod RefusalContracts
