pub mod Digits
pub mod Examples
pub mod KeyOrders
pub mod Zeros
