pub mod Columns
pub mod Line
pub mod Sheet
pub mod Widths
pub mod Examples
