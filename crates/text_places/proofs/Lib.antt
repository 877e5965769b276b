pub mod Around
pub mod Fronts
