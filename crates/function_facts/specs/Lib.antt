pub mod Sight
pub mod InSight
pub mod OverTables
pub mod Raising
pub mod SetSlots
