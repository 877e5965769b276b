pub mod Starts
pub mod Batches
pub mod CallTables
pub mod FunctionAnswers
pub mod Laws
pub mod Worked
