pub mod FirstOnes
pub mod Marking
pub mod TakenNames
pub mod Verdicts
