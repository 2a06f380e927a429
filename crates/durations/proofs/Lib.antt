pub mod Digits
pub mod Ticks
pub mod Timing
pub mod Exactness
