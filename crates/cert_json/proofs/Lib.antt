pub mod Lists
pub mod ListsAgain
pub mod Codes
pub mod Again
pub mod FormsAgain
pub mod Flat
pub mod FieldByField
pub mod OneLine
