pub mod Settings
pub mod Layouts
pub mod Places
pub mod Continues
