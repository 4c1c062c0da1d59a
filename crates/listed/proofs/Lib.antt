pub mod ByKind
pub mod Items
pub mod Walks
pub mod Whole
pub mod Each
pub mod Levels
