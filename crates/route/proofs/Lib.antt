pub mod Rows
pub mod Ids
