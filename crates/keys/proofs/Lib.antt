pub mod Words
pub mod Ranges
pub mod Hashing
pub mod Strings
pub mod Walking
pub mod Images
