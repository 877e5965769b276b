pub mod Passing
pub mod Premises
pub mod Short
pub mod NormalForm
