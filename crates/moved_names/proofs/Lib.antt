pub mod RenamingRules
pub mod FindingRules
pub mod WordRules
