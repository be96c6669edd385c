pub mod Placing
pub mod Leaves
pub mod Enums
