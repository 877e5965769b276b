pub mod Steps
pub mod Turns
pub mod CaseOfSeven
pub mod SmallCases
