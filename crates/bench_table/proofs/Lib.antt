-- The rows of the table: the short ones by computing, the long ones by the laws of what the wire brings.
pub mod Rows
pub mod Wire
