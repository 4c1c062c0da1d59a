pub mod Accepted
pub mod Results
pub mod Examples
