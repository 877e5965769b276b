pub mod Equations
pub mod AlgebraEquations
pub mod StatementEquations
pub mod CountLemmas
