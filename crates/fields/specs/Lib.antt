pub mod Fields
pub mod Texts
pub mod Lists
pub mod OnRecords
pub mod Props
