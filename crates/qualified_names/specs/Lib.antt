pub mod Sight
pub mod Qualifying
pub mod Trees
pub mod Examples
pub mod Unambiguous
