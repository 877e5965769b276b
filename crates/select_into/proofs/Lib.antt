pub mod Values
pub mod Deeper
pub mod Casts
pub mod SourceReads
pub mod Lists
pub mod ColumnNames
