pub mod TypingRules
pub mod UsesRules
pub mod ParameterRules
