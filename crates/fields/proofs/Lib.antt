pub mod Fields
pub mod Lists
pub mod Agree
pub mod Few
