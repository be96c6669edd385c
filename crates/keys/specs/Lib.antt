pub mod Hash
pub mod Runs
