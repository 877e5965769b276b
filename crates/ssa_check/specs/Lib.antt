pub mod Naming
pub mod Lockstep
pub mod NamingBounds
pub mod Definitions
pub mod TrivialPhis
