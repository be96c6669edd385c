pub mod Chaining
pub mod Finding
pub mod Found
pub mod Records
