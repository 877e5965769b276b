pub mod OneList
pub mod Reading
pub mod Judging
