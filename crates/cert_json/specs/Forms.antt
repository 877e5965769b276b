-- The forms of a certificate as plain lists and enums.
pub use Rattle.away_values.specs.declared.values.Class.{Class}
pub use Rattle.away_values.specs.declared.types.Ty.{Ty}
pub use Rattle.block_forms.specs.declared.forms.Term.{Term}
pub use Rattle.block_forms.specs.declared.forms.End.{End}
pub use Rattle.block_forms.specs.declared.forms.Block.{Block}
pub use Rattle.block_forms.specs.declared.forms.Goto.{Goto}
pub use Rattle.block_forms.specs.declared.forms.Phi.{Phi}
pub use Rattle.block_forms.specs.declared.forms.SsaBlock.{SsaBlock}
pub use Rattle.block_forms.specs.declared.forms.Ssa.{Ssa}
pub use Rattle.call_forms.specs.declared.forms.Call.{Call}
pub use Rattle.call_forms.specs.declared.forms.CallEnd.{CallEnd}
pub use Rattle.call_forms.specs.declared.forms.AnfBlock.{AnfBlock}
pub use Rattle.call_forms.specs.declared.forms.Anf.{Anf}
pub use Rattle.call_forms.specs.declared.forms.Tail.{Tail}
pub use Rattle.call_forms.specs.declared.forms.Forms.{Forms as Cert}
