pub mod Making
pub mod Slots
