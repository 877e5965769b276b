pub mod Choosing
pub mod Sameness
pub mod References
pub mod Placing
pub mod Writing
pub mod Worked
