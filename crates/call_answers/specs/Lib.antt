pub mod Walking
pub mod Calling
pub mod Laws
