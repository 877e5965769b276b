pub mod Phis
pub mod Places
pub mod OneDefinition
pub mod InSight
pub mod Predecessors
pub mod DefinitionsFirst
pub mod NamedLaws
pub mod JoinedNames
