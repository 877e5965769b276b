pub mod Trial
pub mod CompiledQuery
pub mod Summary
