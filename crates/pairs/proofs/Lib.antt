pub mod Moves
pub mod Refusals
pub mod Performing
pub mod Targets
pub mod Levels
pub mod Additions
pub mod Roots
