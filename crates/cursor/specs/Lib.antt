pub mod Segments
pub mod Takings
pub mod Scans
pub mod Ampersands
pub mod Collected
pub mod From
