pub mod TakenRows
pub mod Wider
pub mod Laws
pub mod Worked
pub mod WrittenForDatabases
