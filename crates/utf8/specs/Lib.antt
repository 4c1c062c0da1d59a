pub mod Decides
pub mod Examples
pub mod Grammar
pub mod Test
