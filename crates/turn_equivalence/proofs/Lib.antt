pub mod UnfoldedRuns
pub mod Chain
pub mod WorkedTurns
