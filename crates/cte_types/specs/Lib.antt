pub mod Typed
pub mod FormLaws
pub mod Linked
pub mod TreeLaws
pub mod Whole
