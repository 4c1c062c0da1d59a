pub mod Along
pub mod SameTree
pub mod Readings
