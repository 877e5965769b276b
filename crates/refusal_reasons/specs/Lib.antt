pub mod Instead
pub mod Entries
pub mod Reasons
pub mod Laws
