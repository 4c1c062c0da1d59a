pub mod Heads
pub mod KeyTags
pub mod Comparing
