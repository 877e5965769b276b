-- The events of the whole query round its branches.
use Rattle.std.specs.Prelude.{
  ◌≡◌,
  ℕ,
  suc,
  true,
  pos,
  List,
  [],
  ◌∷◌,
  ◌++◌,
  length,
  get_or,
  slice_get,
  Option,
  Some,
  None,
  decimal,
}
use Rattle.away_trees.specs.declared.queries.Expr.{Expr}
use Rattle.away_trees.specs.declared.queries.Expr.TheVariants as expr
use Rattle.away_trees.specs.declared.queries.FromItem.{FromItem}
use Rattle.away_trees.specs.declared.queries.Select.{Select}
use Rattle.away_values.specs.declared.types.Ty.{Ty}
use Rattle.away_values.specs.declared.types.Ty.TheVariants as ty
use Rattle.call_forms.specs.Forms.{params_of}
use Rattle.block_forms.specs.Places.{Each}
use Rattle.call_forms.specs.Called.{Among}
use Rattle.call_forms.specs.Template.{all_of, argument_cells, query_of}
use Rattle.tree_events.specs.Events.{Put, node, row, events_of_query}
use Rattle.tree_events.specs.declared.events.Kind.TheVariants as kind
use Rattle.tree_events.specs.declared.events.TreeEvent.TheVariants as event
use Rattle.sql_meaning.specs.Template.{last}
use Rattle.sql_meaning.specs.Trees.{col, number, truth, null_of, table_by, select}
use Rattle.cte_reads.specs.Puts.{
  expr_put,
  exprs_put,
  from_put,
  select_put,
  end_put,
  lateral_put,
  lateral_end_put,
}
use Rattle.cte_reads.specs.Read.{ReadsWhere}
use Rattle.cte_reads.specs.References.{lookup}
use Rattle.cte_check.specs.Walks.{anf_of, types_in, branch_of, HasBranch}
use Rattle.cte_check.specs.declared.body.Given as code

-- the parameter that has a place
abbrev pub param_at : List ℕ → List ℕ → ℕ → Option ℕ
param_at places params i = lookup places params i

abbrev pub argument : code.Given → Option ℕ → Ty → Expr
argument g None t = null_of t
argument g (Some p) t = expr.Param (suc p) (types_in g p)

-- the arguments in the places of the entry's parameters, as the template has them
abbrev pub arguments : code.Given → List ℕ → List ℕ → List Expr
arguments g params places = argument_cells (types_in g) 0 places params g.tail.now.columns

-- the first term, where the entry is the label that is n-th, counted from 0
abbrev pub start : code.Given → ℕ → ℕ → Select
start g entry label =
    let cells : List Expr = arguments g (params_of (slice_get g.blocks.now entry)) (get_or g.tail.now.places label []) in
    select (truth true ∷ number (pos (suc label)) ∷ cells ++ (null_of g.result ∷ null_of ty.Text ∷ [])) [] None

abbrev pub working_table : ℕ → FromItem
working_table tables = table_by (decimal tables)

abbrev pub last_of : code.Given → ℕ → Select
last_of g tables = last (decimal tables) (length g.tail.now.columns)

-- up to the branches
abbrev pub before_put : code.Given → ℕ → ℕ → ℕ → Put
before_put g entry label tables rest =
    event.Open kind.Query ∷ event.Open kind.With ∷ event.Open kind.Recursive ∷ event.Open kind.First ∷ select_put (start g entry label)
    (event.Close ∷ event.Enter ∷ event.Open kind.From ∷ from_put (working_table tables) (lateral_put rest))

-- behind the branches, the rest of the second term
abbrev pub rest_of_step : code.Given → Put
rest_of_step g rest =
    lateral_end_put (event.Close ∷ node kind.List (exprs_put (all_of [] (λ n. ty.Bigint) g.tail.now.columns g.result 1))
    (node kind.Filter (expr_put (col 0 0 0)) (end_put rest)))

-- behind the branches, to the query's end
abbrev pub behind_put : code.Given → ℕ → Put
behind_put g tables rest = rest_of_step g (event.Close ∷ event.Close ∷ select_put (last_of g tables) (event.Close ∷ rest))

-- ---- branches

-- the branches of labels, from label n on
abbrev pub branches_from : List Expr → code.Given → ℕ → List ℕ → List Select
branches_from table g n [] = []
branches_from table g n (b ∷ bs) = branch_of table g n b ∷ branches_from table g (suc n) bs

-- each label has its branch
abbrev pub HasBranches : List Expr → code.Given → Type 0
HasBranches table g = Each (HasBranch table g) g.tail.now.labels

abbrev pub BranchesRead : List Expr → code.Given → Option ℕ → Option ℕ → Type 0
BranchesRead table g from to =
    ReadsWhere (HasBranches table g) (row select_put (branches_from table g 0 g.tail.now.labels)) g.events.now from to

-- ---- the whole

-- The entry is a label, each label has its branch, and the events are those of the template.
pub record IsTemplate (table : List Expr) (g : code.Given) (start tables : ℕ) : Type 0 where
  pub entry : Among g.tail.now.labels start
  pub trees : HasBranches table g
  pub events : g.events.now ≡ events_of_query (query_of table (types_in g) g.result (anf_of g) g.tail.now start tables)
