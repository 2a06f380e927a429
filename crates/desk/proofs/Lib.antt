pub mod Telling
pub mod Hearing
pub mod OneCall
pub mod Answered
pub mod OneLine
pub mod Fresh
