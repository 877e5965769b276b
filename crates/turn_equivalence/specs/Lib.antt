pub mod InTurns
pub mod Worked
