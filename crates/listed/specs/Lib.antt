pub mod Listed
pub mod Walking
pub mod Whole
pub mod Levels
