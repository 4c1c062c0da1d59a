pub mod Fitted
pub mod Items
pub mod Lengths
pub mod Shown
pub mod Placed
pub mod Widths
pub mod Examples
