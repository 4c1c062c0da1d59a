pub mod Rules
pub mod Meaning
pub mod SameTree
pub mod Readings
