pub mod Names
pub mod Known
pub mod Trees
pub mod Columns
pub mod Placing
