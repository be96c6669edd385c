pub mod Chunks
pub mod Decode
pub mod Zeros
pub mod Columns
pub mod Known
pub mod Leaves
pub mod EnumNames
pub mod Words
