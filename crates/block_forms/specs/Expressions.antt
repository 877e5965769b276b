-- The expression table: a function's source expressions in the order of its text, whole expressions
-- alone, and behind them a fixed list. A SELECT INTO has its tests and picks; what stands in its
-- select isn't a source expression of its own.
use Rattle.std.specs.Prelude.{
  ℕ,
  zero,
  suc,
  Bool,
  List,
  [],
  ◌∷◌,
  ◌++◌,
  slice_get,
  Option,
  Some,
  None,
  Ok,
}
use Rattle.away_values.specs.declared.values.Value.{Value}
use Rattle.away_values.specs.declared.values.Value.TheVariants as val
use Rattle.away_values.specs.Results.{Or}
use Rattle.away_trees.specs.declared.queries.Expr.{Expr}
use Rattle.away_trees.specs.declared.queries.Select.{Select}
use Rattle.away_trees.specs.declared.statements.Arm.{Arm}
use Rattle.away_trees.specs.declared.statements.Decl.{Decl}
use Rattle.away_trees.specs.declared.statements.Function.{Function}
use Rattle.away_trees.specs.declared.statements.LoopKind.{LoopKind}
use Rattle.away_trees.specs.declared.statements.LoopKind.TheVariants as kind
use Rattle.away_trees.specs.declared.statements.Stmt.{Stmt}
use Rattle.away_trees.specs.declared.statements.Stmt.TheOpen.{Stmt-F, Arm-F}
use Rattle.away_trees.specs.declared.statements.Stmt.TheOpen as st
use Rattle.away_trees.specs.StatementAlgebra.{StatementAlgebra, stmt_of, branch_of}
use Rattle.sql_meaning.specs.Context.{Rows}
use Rattle.sql_meaning.specs.Meaning.{value}
use Rattle.sql_meaning.specs.OneReturn.{body}
use Rattle.sql_meaning.specs.Reads.{slots_of}
use Rattle.select_into.specs.Entries.{Target, into_entries}
use Rattle.plsql_meaning.specs.Sight.{query_of}
use Rattle.block_forms.specs.FixedList.{fixed_list}
use Rattle.block_forms.specs.Slots.{shown_types}

-- ---- source expressions

abbrev pub Sources : Type 0
Sources = List Expr

abbrev pub in_turn : List Sources → Sources
in_turn [] = []
in_turn (x ∷ xs) = x ++ in_turn xs

abbrev pub if_there : Option Expr → Sources
if_there None = []
if_there (Some e) = e ∷ []

abbrev pub default_of : Decl → Sources
default_of d = if_there d.default

abbrev pub defaults : List Decl → Sources
defaults [] = []
defaults (d ∷ ds) = if_there d.default ++ defaults ds

abbrev pub of_kind : LoopKind → Sources
of_kind kind.Plain = []
of_kind (kind.While e) = e ∷ []
of_kind (kind.Count _ _ first last step) = first ∷ last ∷ if_there step

abbrev pub of_else : Option (List Sources) → Sources
of_else None = []
of_else (Some body) = in_turn body

-- the expressions of a SELECT INTO, by its parts
abbrev pub Entries : Type 0
Entries = Bool → List Target → Select → Sources

module _ (entries : Entries) where
  abbrev of_statement : Stmt-F Sources Sources → Sources
  of_statement (st.Block _ decls body _) = defaults decls ++ in_turn body
  of_statement (st.Assign _ _ e) = e ∷ []
  of_statement (st.If arms other) = in_turn arms ++ of_else other
  of_statement (st.Cases arms other) = in_turn arms ++ of_else other
  of_statement (st.Loop _ k body _) = of_kind k ++ in_turn body
  of_statement (st.Exit _ when) = if_there when
  of_statement (st.Continue _ when) = if_there when
  of_statement (st.Return e) = e ∷ []
  of_statement (st.Raise _) = []
  of_statement (st.Into strict targets query) = entries strict targets query
  of_statement st.Nothing = []

  abbrev pub sourcing : StatementAlgebra
  sourcing = record {
    AStmt = Sources;
    AnArm = Sources;
    stmt = of_statement;
    arm = λ a. a.test ∷ in_turn a.body;
  }

  unfoldable pub sources : Stmt → Sources
  sources s = stmt_of sourcing s

  unfoldable pub sources_of_arm : Arm → Sources
  sources_of_arm x = branch_of sourcing x

-- the select of a SELECT INTO as one expression
abbrev pub whole_select : Entries
whole_select strict targets query = query_of query ∷ []

-- those of a function: a SELECT INTO has its tests and its picks
abbrev pub source_expressions : Function → Sources
source_expressions f = sources (into_entries (shown_types f)) f.body

-- ---- the table

abbrev pub expressions : Function → Sources
expressions f = source_expressions f ++ fixed_list

-- ---- the value of an entry

-- the value at a place, and NULL at each place before it where the list is shorter
abbrev pub put_at : ℕ → Value → List Value → List Value
put_at zero v [] = v ∷ []
put_at zero v (x ∷ xs) = v ∷ xs
put_at (suc i) v [] = val.Null ∷ put_at i v []
put_at (suc i) v (x ∷ xs) = x ∷ put_at i v xs

-- the variables of an entry: each of its slots holds the value beside it
abbrev pub holding : List ℕ → List Value → List Value
holding [] vs = []
holding (s ∷ ss) [] = []
holding (s ∷ ss) (v ∷ vs) = put_at s v (holding ss vs)

-- the entry's value where its slots, in the order of their first occurrence, hold these values;
-- what is no entry is NULL
abbrev pub entry_value : List Rows → Option Expr → List Value → Or Value
entry_value tables None vs = Ok val.Null
entry_value tables (Some e) vs = value e (body tables (holding (slots_of e) vs))

abbrev pub applied : List Rows → Sources → ℕ → List Value → Or Value
applied tables list k vs = entry_value tables (slice_get list k) vs
