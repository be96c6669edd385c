pub mod Places
pub mod KeyLaws
pub mod Chaining
pub mod Compiling
