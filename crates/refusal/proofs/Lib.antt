-- The order, computed.
mod Examples
