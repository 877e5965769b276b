pub mod Slots
pub mod Spends
pub mod Stays
pub mod FunctionLaws
pub mod CounterLaws
pub mod InSight
pub mod Readers
