pub mod BodyTrees
pub mod PlaceRules
pub mod TreeSteps
pub mod ClosedTrees
pub mod Unfolds
