pub mod Asking
pub mod Enclosing
pub mod Wanted
pub mod Runs
pub mod AnswerRuns
pub mod Room
pub mod Passing
pub mod Below
