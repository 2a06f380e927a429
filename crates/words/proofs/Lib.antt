pub mod Words
pub mod Contract
pub mod Searching
pub mod Fronts
