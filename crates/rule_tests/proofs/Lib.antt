pub mod BrokenRules
pub mod RowRules
