pub mod MovedRules
pub mod Lists
