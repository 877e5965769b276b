-- What holds of a function's expressions in a query.
use Rattle.std.specs.Prelude.{ℕ, ◌≤◌, List, get_or}
use Rattle.away_values.specs.declared.types.Ty.{Ty}
use Rattle.away_trees.specs.declared.queries.Col.{Col}
use Rattle.away_trees.specs.declared.queries.Expr.TheVariants as expr
use Rattle.away_trees.specs.declared.schemas.Schema.{Schema}
use Rattle.away_trees.specs.declared.statements.Function.{Function}
use Rattle.away_trees.specs.Count.{nodes}
use Rattle.away_trees.specs.Limits.{most_nodes}
use Rattle.away_names.specs.Lookups.{Scope}
use Rattle.away_types.specs.declared.slots.Slot.{Slot}
use Rattle.away_types.specs.CheckedFunctions.{IsChecked}
use Rattle.elaboration.specs.Erasing.{erased}
use Rattle.sql_meaning.specs.Placed.{placed_at}
use Rattle.sql_meaning.specs.Reads.{slots_of}
use Rattle.block_forms.specs.Expressions.{expressions}
use Rattle.block_forms.specs.Places.{Each}
use Rattle.qualified_names.specs.Unambiguous.{value, IsClear}
use Rattle.cte_names.specs.Own.{SeesTables, IsOwn}

-- each expression of a checked function within the limits is clear where the query has it, without
-- the marks of its operations, if its slots are columns of the query's own there
abbrev pub PlacedAreClear : Type 0
PlacedAreClear =
    (schema : Schema) (written f : Function) (slots : List Slot) → IsChecked schema written f slots
    → nodes f ≤ most_nodes → (i : ℕ) (t : Ty) (s : Scope) (ref : ℕ → Col)
    → SeesTables schema s → Each (λ k. IsOwn s.levels (ref k)) (slots_of (get_or (expressions f) i expr.Null))
    → IsClear value s (erased (placed_at t ref (get_or (expressions f) i expr.Null)))
