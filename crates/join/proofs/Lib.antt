pub mod Copying
pub mod Calls
pub mod Promises
