pub mod Marks
pub mod MadeTrees
pub mod Elaborating
pub mod ElaboratingLists
pub mod Erasing
pub mod Whole
pub mod Converting
pub mod ConvertingLists
