pub mod Spelling
pub mod WrittenQueries
mod Short
