pub mod Decides
pub mod Examples
pub mod Steps
