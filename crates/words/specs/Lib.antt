pub mod Contract
pub mod Words
