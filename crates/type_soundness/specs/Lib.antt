pub mod Sorts
pub mod Arguments
pub mod Surroundings
pub mod TypedValues
pub mod TypedAnswers
pub mod Worked
pub mod AskedTypes
pub mod WorkedTypes
