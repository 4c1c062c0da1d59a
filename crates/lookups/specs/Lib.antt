pub mod Names
pub mod Answers
pub mod Each
pub mod Fits
pub mod Laid
