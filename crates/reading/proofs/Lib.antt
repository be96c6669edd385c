pub mod Steps
pub mod Contracts
pub mod Members
pub mod Types
pub mod Whole
pub mod Promises
