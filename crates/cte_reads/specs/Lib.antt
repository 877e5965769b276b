pub mod Read
pub mod Puts
pub mod References
pub mod Rows
pub mod Entries
pub mod Placing
