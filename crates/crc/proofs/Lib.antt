pub mod AtVectors
pub mod Xor
pub mod Rule
pub mod Changes
