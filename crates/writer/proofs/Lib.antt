pub mod Compounds
pub mod Types
pub mod Answering
