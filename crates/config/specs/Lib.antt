pub mod Defaults
pub mod Limits
pub mod Numbers
