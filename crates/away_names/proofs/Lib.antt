mod Digits
pub mod Doubles
pub mod NamingRules
pub mod WholeScopes
