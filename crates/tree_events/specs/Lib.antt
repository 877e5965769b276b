pub mod Events
pub mod Telling
pub mod Placing
pub mod SlotsRead
pub mod Occurrences
