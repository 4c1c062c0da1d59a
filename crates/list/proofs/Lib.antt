pub mod Replies
pub mod Enough
