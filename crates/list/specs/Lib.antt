pub mod Reply
pub mod Lending
pub mod Enough
