pub mod Pages
pub mod Digits
pub mod Lengths
pub mod Filled
pub mod Wrote
