pub mod Answering
pub mod Decimals
