pub mod Ends
pub mod Answering
pub mod Each
pub mod Fits
pub mod Laid
