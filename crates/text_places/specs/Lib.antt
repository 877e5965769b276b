pub mod Lines
pub mod TextEnds
