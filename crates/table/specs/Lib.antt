pub mod Survey
pub mod Names
pub mod Path
pub mod Known
pub mod Extent
