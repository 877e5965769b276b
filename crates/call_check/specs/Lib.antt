pub mod Counts
pub mod StageLaws
