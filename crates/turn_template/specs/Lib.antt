pub mod Totals
pub mod TurnTemplate
pub mod Unfolded
