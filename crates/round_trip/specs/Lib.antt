pub mod Writable
pub mod RoundTrip
pub mod Bound
