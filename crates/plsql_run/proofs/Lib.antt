pub mod Unwound
pub mod Arms
pub mod Passing
pub mod Targets
pub mod Standing
pub mod Layouts
pub mod Raising
pub mod Converted
