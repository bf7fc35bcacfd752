-- What the contracts of `file_mode` cite.
pub mod Mode
