pub mod Writable
pub mod PrintedTerminals
