pub mod CallTables
pub mod Batches
