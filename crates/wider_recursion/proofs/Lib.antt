pub mod RowRules
pub mod Over
pub mod CleanNotes
pub mod Taken
