pub mod Stepping
pub mod Storing
pub mod Passing
pub mod Validity
pub mod Following
