pub mod Contract
pub mod Members
pub mod Reads
