pub mod Commands
pub mod Stored
pub mod Nodes
pub mod NewValues
pub mod Needing
pub mod Laying
pub mod Entering
