pub mod ListSteps
pub mod Digits
pub mod PublicRules
pub mod RowsAnswerRules
pub mod ClassRules
pub mod LengthRules
pub mod LeastBounds
pub mod PlaceRules
pub mod SameTables
pub mod KeptTables
pub mod KeptRules
mod SubqueryRules
