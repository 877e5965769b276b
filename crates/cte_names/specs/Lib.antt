pub mod Own
pub mod ExpressionLaws
pub mod TreeLaws
