pub mod Wrapped
pub mod Entries
pub mod Laws
pub mod Examples
