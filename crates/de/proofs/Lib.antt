pub mod Stored
pub mod AfterReading
pub mod Asking
pub mod SingleReads
pub mod NotSingle
pub mod Answered
pub mod Examples
