pub mod Answers
pub mod Listing
pub mod ListingInside
pub mod Numbers
pub mod Repeating
pub mod Rows
pub mod Shifting
pub mod Tallying
