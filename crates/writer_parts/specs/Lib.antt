pub mod Places
pub mod Leaf
pub mod Enum
