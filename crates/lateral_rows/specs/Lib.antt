pub mod RowParts
pub mod Aggregates
