pub mod Trees
pub mod Unfolding
pub mod Testing
