pub mod Skipping
pub mod Surveys
pub mod Checking
pub mod Answers
pub mod Naming
pub mod ZeroClass
pub mod Passing
pub mod Extents
