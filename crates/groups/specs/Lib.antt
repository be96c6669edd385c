pub mod Chains
pub mod Duplicates
pub mod Groups
pub mod Join
pub mod Runs
