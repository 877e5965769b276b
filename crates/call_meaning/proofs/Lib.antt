pub mod Agreeing
mod Frames
mod Steps
mod Simulation
mod Callees
mod NullTests
mod CallBlocks
mod Places
pub mod Expanded
mod TailBlocks
pub mod Untailed
mod Fueled
pub mod Renamings
mod Witnesses
mod Plain
mod Nearby
