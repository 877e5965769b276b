mod Orders
mod TextParts
mod DivisionLaws
mod SpellingLaws
mod SubstrLaws
pub mod Typing
mod Faults
mod OperatorExamples
