pub mod CellRules
pub mod StartRules
pub mod PlaceRules
pub mod ValueRules
pub mod WalkRules
pub mod Nameless
pub mod PlacesSeen
pub mod CarriedTemplate
pub mod TreeIsTemplate
mod Makings
mod BranchRules
