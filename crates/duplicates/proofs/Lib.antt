pub mod Answers
pub mod Calls
pub mod Promises
pub mod WordLaws
