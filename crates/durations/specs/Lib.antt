pub mod Milliseconds
pub mod Durations
pub mod Claims
