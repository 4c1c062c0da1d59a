pub mod Escaping
pub mod Writing
pub mod Examples
pub mod Others
