-- What holds of how a function's query is written.
use Rattle.std.specs.Prelude.{ℕ, ◌<◌, ◌≤◌, ◌^◌, List, length}
use Rattle.away_grammar.specs.Grammar.{file}
use Rattle.away_trees.specs.Count.{nodes}
use Rattle.away_trees.specs.Limits.{most_nodes}
use Rattle.away_trees.specs.declared.schemas.Schema.{Schema}
use Rattle.away_trees.specs.declared.statements.Function.{Function}
use Rattle.away_types.specs.declared.slots.Slot.{Slot}
use Rattle.away_types.specs.CheckedFunctions.{IsChecked}
use Rattle.block_forms.specs.declared.forms.Goto.{Goto}
use Rattle.block_forms.specs.declared.forms.Ssa.{Ssa}
use Rattle.block_forms.specs.Expressions.{expressions}
use Rattle.block_forms.specs.Intos.{intos}
use Rattle.block_forms.specs.Lowered.{Lowered}
use Rattle.block_forms.specs.Named.{Named}
use Rattle.block_forms.specs.Places.{Each}
use Rattle.call_forms.specs.declared.forms.Anf.{Anf}
use Rattle.call_forms.specs.declared.forms.Tail.{Tail}
use Rattle.call_forms.specs.Called.{Called}
use Rattle.call_forms.specs.Columned.{Columned}
use Rattle.call_forms.specs.Merged.{Merged}
use Rattle.call_forms.specs.Tight.{Tight}
use Rattle.cte_template.specs.Making.{making_of}
use Rattle.cte_template.specs.Numbers.{NumbersFit}
use Rattle.cte_template.specs.Tree.{tree}
use Rattle.qualified_names.specs.Trees.{qualified}
use Rattle.cte_prints.specs.Derivable.{Derivable}
use Rattle.cte_types.specs.Linked.{HasLinkedItems}
use Rattle.cte_prints.specs.DerivableParts.{TableIsDerivable}

-- What is asked of a function and its labels beside their relations: that it keeps the limit of
-- nodes, no item of a SELECT INTO that is a chain without links, parameters that have a terminal,
-- and labels whose numbers are bigints.
pub record IsWritable (f : Function) (r : Tail) (params : ℕ) : Type 0 where
  pub few : nodes f ≤ most_nodes
  pub items : Each HasLinkedItems (intos f.body)
  pub parameters : params ≤ 64
  pub labels : length r.labels < 2 ^ 63

-- Where the function's expressions can be derived with 196 brackets one inside another, the query,
-- with its names, can be derived with 216.
abbrev pub TreeIsDerivable : Type 0
TreeIsDerivable =
    (schema : Schema) (written f : Function) (slots : List Slot) (g : Goto) (z : Ssa) (a : Anf) (r : Tail) (count params : ℕ)
    → IsChecked schema written f slots → Lowered f slots g → Named count params g z → Called g z a → Merged g a r → Columned slots z a r
    → Tight slots g z a r → IsWritable f r params → NumbersFit (making_of f slots z a r)
    → TableIsDerivable 196 schema (expressions f)
    → Derivable 216 file (qualified (tree (making_of f slots z a r) g.entry (length schema.tables)))
