pub mod Aids
pub mod Finding
