pub mod Elements
pub mod TightExample
pub mod WorkedForms
mod IdleExample
