pub mod Ranges
pub mod Predecessors
pub mod Liveness
pub mod Spreading
pub mod Tables
