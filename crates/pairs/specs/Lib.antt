pub mod Progress
pub mod Turns
