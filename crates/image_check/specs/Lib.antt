-- What is proved of the image check.
pub mod Noticed
