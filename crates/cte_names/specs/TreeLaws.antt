-- What holds of the names of a function's query.
use Rattle.std.specs.Prelude.{◌≡◌, ◌≤◌, List, length}
use Rattle.away_trees.specs.declared.queries.Query.{Query}
use Rattle.away_trees.specs.declared.schemas.Schema.{Schema}
use Rattle.away_trees.specs.declared.statements.Function.{Function}
use Rattle.away_trees.specs.Count.{nodes}
use Rattle.away_trees.specs.Limits.{most_nodes}
use Rattle.away_types.specs.declared.slots.Slot.{Slot}
use Rattle.away_types.specs.CheckedFunctions.{IsChecked}
use Rattle.away_names.specs.Files.{file}
use Rattle.away_names.specs.declared.note.Times.TheVariants.{Never, Once}
use Rattle.block_forms.specs.declared.forms.Goto.{Goto}
use Rattle.block_forms.specs.declared.forms.Ssa.{Ssa}
use Rattle.call_forms.specs.declared.forms.Anf.{Anf}
use Rattle.call_forms.specs.declared.forms.Tail.{Tail}
use Rattle.call_forms.specs.Columned.{Columned}
use Rattle.call_forms.specs.Templated.{Templated}
use Rattle.cte_template.specs.Making.{making_of}
pub use Rattle.cte_template.specs.Numbers.{NumbersFit}
use Rattle.cte_template.specs.Tree.{tree}
use Rattle.elaboration.specs.Erasing.{erased_query}
use Rattle.qualified_names.specs.Trees.{qualified}
use Rattle.qualified_names.specs.Unambiguous.{IsClearFile}

-- names are unambiguous in the query of a checked function within the limits, without the marks of
-- its operations
abbrev pub TreeIsClear : Type 0
TreeIsClear =
    (schema : Schema) (written f : Function) (slots : List Slot) (g : Goto) (z : Ssa) (a : Anf) (r : Tail) (q : Query)
    → IsChecked schema written f slots → nodes f ≤ most_nodes → Columned slots z a r
    → Templated f slots (length schema.tables) g z a r q → NumbersFit (making_of f slots z a r)
    → IsClearFile schema
    (erased_query (tree (making_of f slots z a r) g.entry (length schema.tables)))

-- with names again, the query names its recursive table never in its first term and once in its
-- second
pub record NamesTableOnce (schema : Schema) (q : Query) : Type 0 where
  pub first : (file schema (qualified q)).first.refers ≡ Never
  pub second : (file schema (qualified q)).second.refers ≡ Once

abbrev pub TableIsNamedOnce : Type 0
TableIsNamedOnce =
    (schema : Schema) (written f : Function) (slots : List Slot) (g : Goto) (z : Ssa) (a : Anf) (r : Tail) (q : Query)
    → IsChecked schema written f slots → nodes f ≤ most_nodes → Columned slots z a r
    → Templated f slots (length schema.tables) g z a r q → NumbersFit (making_of f slots z a r)
    → NamesTableOnce schema (tree (making_of f slots z a r) g.entry (length schema.tables))
