-- The normal form by tables of live slots.
use Rattle.std.specs.Prelude.{◌<◌, Bool, List, length}
use Rattle.block_forms.specs.declared.forms.Goto.{Goto}
use Rattle.block_forms.specs.declared.forms.Ssa.{Ssa}
use Rattle.block_forms.specs.Places.{Each}
use Rattle.call_forms.specs.declared.forms.Anf.{Anf}
use Rattle.anf_build.specs.Passing.{AreBlocksOf}
use Rattle.block_graph.specs.Tables.{AreLiveTables}

-- the blocks of a form by some tables of live slots, which have each slot that a name has
pub record IsNormalForm (goto : Goto) (ssa : Ssa) (anf : Anf) : Type 0 where
  pub tables : List (List Bool)
  pub slots_in : Each (λ s. s < length tables) ssa.names
  pub are_live : AreLiveTables goto.blocks tables
  pub blocks : AreBlocksOf tables goto.blocks ssa.blocks anf.blocks
