-- What the first half of demand 2 cites: packets that are sent, stored and gone; and what is promised of them.
pub mod Carried
pub mod Packets
pub mod Rooms
pub mod Host
