pub mod Callers
pub mod Walk
pub mod Columns
pub mod TailForm
