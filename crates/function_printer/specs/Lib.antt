pub mod Closed
pub mod FunctionTerminals
pub mod Tags
pub mod FunctionTexts
pub mod Worked
