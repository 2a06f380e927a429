pub mod Asking
pub mod Claims
