pub mod Phis
pub mod Counting
pub mod Seeking
