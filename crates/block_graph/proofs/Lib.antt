pub mod Lists
pub mod Ranges
mod Leading
pub mod Marking
mod Spreading
