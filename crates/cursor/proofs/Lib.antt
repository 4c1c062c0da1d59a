pub mod Segments
pub mod Takings
pub mod From
pub mod Scans
pub mod Ampersands
pub mod Collected
pub mod Digits
