pub mod Ends
pub mod Printed
