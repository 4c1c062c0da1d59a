pub mod Agree
pub mod Examples
pub mod Laying
pub mod Loops
pub mod Plain
pub mod ShownAfter
pub mod Steps
pub mod Table
