pub mod Acts
pub mod Claims
