pub mod Lockstep
pub mod Merging
pub mod StageBounds
pub mod Terms
pub mod TermLaws
