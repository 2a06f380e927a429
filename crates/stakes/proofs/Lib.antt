pub mod AtVectors
pub mod Judging
pub mod Whole
pub mod Noticing
pub mod OffTheCable
