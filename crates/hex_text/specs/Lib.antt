-- What is printed is read back.
pub mod RoundTrip
