pub mod ResolvingRules
pub mod AskingRules
pub mod ClearReports
