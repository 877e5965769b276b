pub mod Firsts
pub mod Reaching
pub mod Refusing
