pub mod Exclusion
