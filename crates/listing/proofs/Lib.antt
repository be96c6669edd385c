pub mod Pieces
pub mod Shapes
pub mod Lines
pub mod Answering
pub mod Cases
pub mod Displayed
