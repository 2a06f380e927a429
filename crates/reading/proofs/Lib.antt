pub mod EachRead
pub mod Fresh
