pub mod Theorem
pub mod SignOf
