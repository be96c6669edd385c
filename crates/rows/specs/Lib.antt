pub mod Entries
pub mod Columns
