pub mod Keeping
pub mod Shortcuts
pub mod Finds
