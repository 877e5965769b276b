pub mod Translated
pub mod WrittenQuery
pub mod Compiled
