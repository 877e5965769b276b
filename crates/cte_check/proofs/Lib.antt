pub mod LabelPlaces
pub mod Standing
pub mod Walking
pub mod WholeEvents
pub mod IsTheQuery
pub mod Branches
pub mod Composed
