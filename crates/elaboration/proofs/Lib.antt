pub mod ElaboratingRules
pub mod ConvertingRules
