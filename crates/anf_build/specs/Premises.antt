-- What is asked of an SSA form.
use Rattle.std.specs.Prelude.{ℕ}
use Rattle.block_forms.specs.declared.forms.Goto.{Goto}
use Rattle.block_forms.specs.declared.forms.Ssa.{Ssa}
use Rattle.block_forms.specs.Named.{Named}

-- it is the SSA form of a goto form with some number of slots, of which some are parameters
pub record IsNamed (goto : Goto) (ssa : Ssa) : Type 0 where
  pub slots : ℕ
  pub params : ℕ
  pub named : Named slots params goto ssa
