pub mod Renaming
pub mod Renamed
pub mod Finding
pub mod Words
pub mod Seeking
pub mod Fresh
