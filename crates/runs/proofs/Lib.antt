pub mod Storing
pub mod Types
pub mod Inside
pub mod Listed
