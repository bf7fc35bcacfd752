-- The ways of a call at the ID port, and of the part handed up.
pub mod Port
pub mod Part
-- The sizes, as the structs are laid out.
pub mod LaidOut
