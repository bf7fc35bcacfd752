-- What the contracts of `places` cite.
pub mod Places
