pub mod Pieces
pub mod Functions
pub mod Queries
pub mod RowRules
pub mod Integers
