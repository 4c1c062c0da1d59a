pub mod Lines
pub mod Listing
pub mod Bounded
pub mod Complete
pub mod Room
pub mod Styles
pub mod Examples
