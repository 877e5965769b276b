-- The types of the forms.

pub use Rattle.away_values.specs.declared.values.Class.{Class}
pub use Rattle.block_forms.specs.declared.forms.Term.{Term}
pub use Rattle.block_forms.specs.declared.forms.End.{End}
pub use Rattle.block_forms.specs.declared.forms.End.TheVariants.{Jump, Branch, Return, Fail}
pub use Rattle.block_forms.specs.declared.forms.Block.{Block}
pub use Rattle.block_forms.specs.declared.forms.Goto.{Goto}
pub use Rattle.block_forms.specs.declared.forms.Phi.{Phi}
pub use Rattle.block_forms.specs.declared.forms.SsaBlock.{SsaBlock}
pub use Rattle.block_forms.specs.declared.forms.Ssa.{Ssa}
