pub mod Answers
pub mod Copying
