pub mod SharedRows
pub mod Scopes
pub mod Called
pub mod Classes
pub mod Lengths
pub mod RowsAnswers
pub mod Places
pub mod Kept
