pub mod Moved
pub mod Filled
pub mod Written
pub mod Answers
pub mod Typed
pub mod Fails
pub mod Laws
pub mod Worked
