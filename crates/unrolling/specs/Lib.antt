pub mod Unrolled
pub mod InTurns
