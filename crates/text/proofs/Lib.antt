pub mod Decimal
pub mod Writing
pub mod Adding
pub mod Joined
pub mod Ending
pub mod Bytes
