pub mod Lengths
pub mod Bounds
pub mod Leaves
pub mod Made
pub mod Listed
pub mod Measures
