pub mod Pass
pub mod Names
