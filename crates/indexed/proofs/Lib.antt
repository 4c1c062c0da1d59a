pub mod Sequences
pub mod Start
pub mod Gaps
pub mod Parents
pub mod Knowing
pub mod Grows
pub mod Added
