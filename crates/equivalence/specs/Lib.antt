pub mod Accepted
pub mod Worked
