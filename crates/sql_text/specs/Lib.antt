pub mod Plans
pub mod TerminalKinds
pub mod Descent
pub mod CodeTerminals
pub mod SchemaQualified
pub mod Refusals
