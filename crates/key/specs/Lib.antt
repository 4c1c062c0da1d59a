pub mod Collected
pub mod Examples
pub mod Keys
pub mod KeyOrder
pub mod Leading
pub mod Zeros
