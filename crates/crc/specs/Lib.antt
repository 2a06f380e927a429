pub mod Crc
pub mod Claims
pub mod Vectors
