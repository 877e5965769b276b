pub mod SlotBlocks
pub mod IntoBlocks
pub mod Building
pub mod Whole
pub mod Drafts
pub mod Enclosings
