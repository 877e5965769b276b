pub mod Sizes
pub mod Weighing
pub mod Depths
pub mod Walking
pub mod PrintedTokens
pub mod Told
pub mod Laws
