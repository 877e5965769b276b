pub mod Cells
pub mod Files
pub mod Unread
pub mod Worked
pub mod FirstLaws
