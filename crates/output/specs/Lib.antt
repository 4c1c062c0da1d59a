pub mod Output
pub mod Numbers
pub mod Decimals
pub mod Lines
pub mod Wrote
