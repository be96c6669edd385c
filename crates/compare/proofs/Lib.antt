pub mod Ranges
pub mod Fields
pub mod Types
pub mod Inside
pub mod Comparing
pub mod Promises
