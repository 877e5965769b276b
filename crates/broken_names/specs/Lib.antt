pub mod Holds
pub mod StatementCulprits
pub mod Reasons
pub mod NameTokens
pub mod WorkedCulprits
