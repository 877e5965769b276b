pub mod MovingRules
pub mod JudgingRules
pub mod JudgedCounts
pub mod StrictRules
pub mod UntailingRules
pub mod ExpandingRules
pub mod PlaceRules
