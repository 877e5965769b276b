pub mod Law
pub mod Worked
