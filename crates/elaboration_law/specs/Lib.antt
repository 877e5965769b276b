pub mod Laws
pub mod Blind
pub mod Rebuilding
pub mod Dots
pub mod ConvertingLaws
pub mod Table
pub mod Examples
pub mod StatementLaws
