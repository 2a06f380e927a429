pub mod Writing
pub mod Adding
pub mod Claims
pub mod Ending
