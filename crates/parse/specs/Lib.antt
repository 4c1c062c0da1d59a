pub mod Outcomes
pub mod Calls
pub mod Answers
pub mod Space
pub mod Growth
pub mod Demands
pub mod Begun
