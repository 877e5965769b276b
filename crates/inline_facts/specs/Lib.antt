pub mod Slots
pub mod Facts
