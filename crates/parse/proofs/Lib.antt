pub mod Outcomes
pub mod Calls
pub mod Demands
pub mod Went
