-- That the text of a function's query reads as the query again.
use Rattle.std.specs.Prelude.{◌≡◌, ◌<◌, ◌^◌, ℕ, List, length}
use Rattle.away_grammar.specs.FunctionGrammar.{ReadsFunction}
use Rattle.away_grammar.specs.Printing.{query_text}
use Rattle.away_grammar.specs.Texts.{ReadsQuery}
use Rattle.away_trees.specs.Limits.{KeepsLimits}
use Rattle.away_trees.specs.declared.queries.Query.{Query}
use Rattle.away_trees.specs.declared.schemas.Schema.{Schema}
use Rattle.away_trees.specs.declared.statements.Function.{Function}
use Rattle.away_types.specs.CheckedFunctions.{IsChecked}
use Rattle.away_types.specs.CheckedQueries.{query_note, resolved_query}
use Rattle.away_types.specs.declared.slots.Slot.{Slot}
use Rattle.away_types.specs.Refusals.{IsUnbroken}
use Rattle.block_forms.specs.declared.forms.Goto.{Goto}
use Rattle.block_forms.specs.declared.forms.Ssa.{Ssa}
use Rattle.block_forms.specs.Lowered.{Lowered}
use Rattle.block_forms.specs.Named.{Named}
use Rattle.call_forms.specs.declared.forms.Anf.{Anf}
use Rattle.call_forms.specs.declared.forms.Tail.{Tail}
use Rattle.call_forms.specs.Called.{Called}
use Rattle.call_forms.specs.Columned.{Columned}
use Rattle.call_forms.specs.Merged.{Merged}
use Rattle.call_forms.specs.Tight.{Tight}
use Rattle.cte_template.specs.Making.{making_of}
use Rattle.cte_template.specs.Numbers.{NumbersFit}
use Rattle.cte_template.specs.Tree.{tree}
use Rattle.qualified_names.specs.Trees.{qualified}
use Rattle.plsql_parse.specs.Refusals as functions
use Rattle.sql_text.specs.Refusals.{MayBeRead}

-- The function is that of a text within the limits, checked under the schema.
pub record IsOfTexts (s : Schema) (f : Function) (slots : List Slot) : Type 0 where
  pub written : Function
  pub limits : KeepsLimits written
  pub checked : IsChecked s written f slots
  pub function_text : List ℕ
  pub function_fits : functions.MayBeRead function_text
  pub reads_function : ReadsFunction function_text written

-- The text of the tree, with its names, reads as the tree with its names, which breaks no rule
-- under the schema and is the tree once they are resolved and its operations marked.
pub record ReadsAgain (s : Schema) (q : Query) : Type 0 where
  pub may_be_read : MayBeRead (query_text (qualified q))
  pub reads : ReadsQuery (query_text (qualified q)) (qualified q)
  pub unbroken : IsUnbroken (query_note s (qualified q))
  pub is_tree : resolved_query s (qualified q) ≡ q

-- The query of a function that was read, with tight forms between them and numbers that fit a word,
-- reads again.
abbrev pub TreesReadAgain : Type 0
TreesReadAgain =
    (s : Schema) (f : Function) (slots : List Slot) (g : Goto) (z : Ssa) (a : Anf) (r : Tail) → IsOfTexts s f slots → Lowered f slots g
    → Named (length slots) (length f.params) g z → Called g z a → Merged g a r → Columned slots z a r → Tight slots g z a r
    → length s.tables < 2 ^ 64 → NumbersFit (making_of f slots z a r) → ReadsAgain s (tree (making_of f slots z a r) g.entry (length s.tables))
