pub mod Stakes
pub mod Claims
pub mod Vectors
