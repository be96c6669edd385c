pub mod Heading
pub mod Classes
pub mod Properties
pub mod Opening
