-- Laws of dropping a version.
mod Copies
mod Dropped
mod Law
mod Oldest
mod Pieces
