-- The forms between a function and a tree in which an iteration runs several turns.
use Rattle.std.specs.Prelude.{ℕ, List}
use Rattle.away_trees.specs.declared.queries.Query.{Query}
use Rattle.away_trees.specs.declared.schemas.Schema.{Schema}
use Rattle.away_trees.specs.declared.statements.Function.{Function}
use Rattle.away_types.specs.declared.slots.Slot.{Slot}
use Rattle.block_forms.specs.declared.forms.Goto.{Goto}
use Rattle.block_forms.specs.declared.forms.Ssa.{Ssa}
use Rattle.call_forms.specs.declared.forms.Anf.{Anf}
use Rattle.call_forms.specs.declared.forms.Tail.{Tail}
use Rattle.turn_query.specs.TurnsQuery.{StandsInTurns}

-- Four forms stand between the function and the tree, in which an iteration runs at most so many
-- turns.
pub record IsInTurns (s : Schema) (f : Function) (slots : List Slot) (most : ℕ) (tree : Query) : Type 0 where
  pub goto : Goto
  pub ssa : Ssa
  pub anf : Anf
  pub tail : Tail
  pub stands : StandsInTurns s f slots goto ssa anf tail most tree
