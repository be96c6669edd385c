pub mod Naming
pub mod Entering
pub mod Progress
pub mod Ending
pub mod Valuing
