pub mod Runs
pub mod Writes
pub mod Examples
pub mod Complete
pub mod Room
