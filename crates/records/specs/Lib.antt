pub mod Records
pub mod Keys
pub mod Siblings
pub mod Nodes
pub mod Holds
pub mod Walks
