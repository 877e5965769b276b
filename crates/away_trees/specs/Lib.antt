pub mod Algebra
pub mod AlgebraEquations
pub mod StatementAlgebra
pub mod StatementEquations
pub mod Count
pub mod WorkedFunctions
pub mod Limits
pub mod Fits
