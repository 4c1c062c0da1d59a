pub mod Reads
pub mod ListReads
pub mod FieldsReads
pub mod SingleReads
pub mod Answered
pub mod Examples
pub mod NotSingle
