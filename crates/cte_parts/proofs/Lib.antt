mod ColumnNames
pub mod ClassTexts
pub mod Lists
pub mod ColumnRules
pub mod PlacingRules
pub mod Results
