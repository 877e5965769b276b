-- The query in which a subquery stands in the place of each call: over one recursive table, in
-- which a row stands for a call at a row of the query.
use Rattle.std.specs.Prelude.{
  ℕ,
  zero,
  suc,
  ◌+◌,
  true,
  false,
  pos,
  List,
  [],
  ◌∷◌,
  ◌++◌,
  map,
  length,
  get_or,
  slice_get,
  decimal,
  Some,
}
use Rattle.away_trees.specs.declared.queries.Expr.{Expr}
use Rattle.away_trees.specs.declared.queries.Expr.TheVariants as expr
use Rattle.away_trees.specs.declared.queries.Expr.TheViews.{
  out-Select,
  roll-FromItem,
  roll-Select,
}
use Rattle.away_trees.specs.declared.queries.FromItem.{FromItem}
use Rattle.away_trees.specs.declared.queries.Source.TheVariants as source
use Rattle.away_trees.specs.declared.queries.Query.{Query}
use Rattle.away_trees.specs.declared.queries.Select.{Select}
use Rattle.away_trees.specs.declared.statements.Function.{Function}
use Rattle.away_types.specs.declared.slots.Slot.{Slot}
use Rattle.away_values.specs.declared.operators.ChainOp.{ChainOp}
use Rattle.away_values.specs.declared.operators.ChainOp.TheVariants as chain
use Rattle.away_values.specs.declared.operators.CmpOp.TheVariants as cmp
use Rattle.away_values.specs.declared.operators.IsTest.TheVariants as test
use Rattle.away_values.specs.declared.types.Ty.{Ty}
use Rattle.away_values.specs.declared.types.Ty.TheVariants as ty
use Rattle.sql_meaning.specs.Trees.{cast_to, col, item, null_of, number, one, select, truth}
use Rattle.plsql_meaning.specs.Equivalent.{types_of}
use Rattle.block_forms.specs.declared.forms.Goto.{Goto}
use Rattle.block_forms.specs.declared.forms.Ssa.{Ssa}
use Rattle.call_forms.specs.Carried.{Carried}
use Rattle.call_forms.specs.Forms.{params_of}
use Rattle.call_forms.specs.Scopes.{paired}
use Rattle.call_forms.specs.declared.forms.Anf.{Anf}
use Rattle.call_forms.specs.declared.forms.Tail.{Tail}
use Rattle.batch_law.specs.Batches.{entry_place}
use Rattle.inline_law.specs.Filled.{CallingSelect}
use Rattle.inline_law.specs.Moved.{deeper, item_filled}

-- each row carries the number of its call and the arguments
abbrev pub carried_types : List Ty → List Ty
carried_types params = ty.Bigint ∷ params

-- ---- the first term

-- the arguments, each under a cast to its parameter's type
abbrev pub cast_arguments : List Ty → List Expr → List Expr
cast_arguments (t ∷ ts) (e ∷ es) = cast_to t e ∷ cast_arguments ts es
cast_arguments ts es = []

-- the arguments in the places of the entry's parameters
abbrev pub argument_cells : List Expr → ℕ → List ℕ → List ℕ → List Ty → List Expr
argument_cells es i places params [] = []
argument_cells es i places params (t ∷ ts) =
    paired (λ p. get_or es p expr.Null) (null_of t) places params i
    ∷ argument_cells es (suc i) places params ts

module _ (params : List Ty) (result : Ty) (anf : Anf) (tail : Tail) (entry : ℕ) where
  -- TRUE, the entry's label, the number of the call, the arguments, the arguments in the places of
  -- the entry's parameters, and no result
  abbrev pub start_list : ℕ → List Expr → List Expr
  start_list number_of_call es =
      let label : ℕ = entry_place result anf tail entry in
      let cast : List Expr = cast_arguments params es in
      let places : List ℕ = get_or tail.places label [] in
      let names : List ℕ = params_of (slice_get anf.blocks entry) in
      let cells : List Expr = argument_cells cast 0 places names tail.columns in
      truth true
      ∷ number (pos (suc label))
      ∷ number (pos number_of_call)
      ∷ cast ++ (cells ++ (null_of result ∷ null_of ty.Text ∷ []))

  -- the same over FROM and WHERE of the select
  abbrev pub start_of_call : Select → ℕ → List Expr → Select
  start_of_call s number_of_call es =
      select (start_list number_of_call es) (out-Select s).from (out-Select s).filter

  -- of the calls from this number on
  abbrev pub starts_of_calls : Select → ℕ → List (List Expr) → List Select
  starts_of_calls s n [] = []
  starts_of_calls s n (es ∷ calls) = start_of_call s n es ∷ starts_of_calls s (suc n) calls

-- ---- a call's subquery

-- the column at this place has the value of e, or both are NULL
abbrev pub is_argument : ℕ → Expr → Expr
is_argument place e =
    expr.Chain (expr.Compare cmp.Eq (col 0 0 place) e)
    ((
      chain.Or,
      expr.Chain (expr.Is (col 0 0 place) test.Null false)
          ((chain.And, expr.Is e test.Null false) ∷ []),
    )
    ∷ [])

abbrev pub are_arguments : ℕ → List Expr → List (ChainOp × Expr)
are_arguments place [] = []
are_arguments place (e ∷ es) = (chain.And, is_argument place e) ∷ are_arguments (suc place) es

-- NOT go AND x0 = n AND the arguments are these
abbrev pub is_call : ℕ → List Expr → Expr
is_call n es =
    expr.Chain (expr.Not (col 0 0 0))
    ((chain.And, expr.Compare cmp.Eq (col 0 0 2) (expr.Int (pos n))) ∷ are_arguments 3 es)

-- behind `go`, `fn`, what is carried, and the columns of the labels
abbrev pub result_place : ℕ → ℕ → ℕ
result_place params columns = 3 + (params + columns)

-- the recursive table, by the digits of its place, with names
abbrev pub table_as : List ℕ → List (List ℕ) → List ℕ → FromItem
table_as name names digits =
    roll-FromItem (record { source = source.Table name; alias = name; columns = digits ∷ names })

-- SELECT res FROM r WHERE NOT go AND x0 = n AND the arguments are these LIMIT 1
abbrev pub value_select : FromItem → ℕ → ℕ → List Expr → Select
value_select table columns n es =
    roll-Select (record {
      list = item (col 0 0 (result_place (length es) columns)) ∷ [];
      from = table ∷ [];
      filter = Some (is_call n es);
      order = [];
      limit = Some (expr.Int (pos 1));
    })

abbrev pub value_of_call : FromItem → ℕ → ℕ → List Expr → Expr
value_of_call table columns n es = expr.Scalar (one (value_select table columns n es))

-- ---- the query

-- expressions of a list, seen from so many selects further in
abbrev pub at_depth : ℕ → List Expr → List Expr
at_depth zero es = es
at_depth (suc d) es = map (deeper (suc d)) es

-- What stands for slot i at depth d, where the arguments of the calls are these, as they stand in
-- their subqueries.
abbrev pub call_leaf : FromItem → ℕ → List (List Expr) → ℕ → ℕ → Expr
call_leaf table columns calls d i =
    value_of_call table columns (suc i) (at_depth d (get_or calls i []))

-- one select further in, arguments see the same columns
abbrev pub inner_calls : List (List Expr) → List (List Expr)
inner_calls calls = map (map (deeper 1)) calls

-- the select with the subqueries in its list
abbrev pub filled_select : FromItem → ℕ → CallingSelect → Select
filled_select table columns q =
    roll-Select (record {
      list = map (item_filled (call_leaf table columns (inner_calls q.calls)))
          (out-Select q.select).list;
      from = (out-Select q.select).from;
      filter = (out-Select q.select).filter;
      order = (out-Select q.select).order;
      limit = (out-Select q.select).limit;
    })

-- The query carries the number of the call and its arguments, begins with a row for each call at
-- each row of FROM and WHERE, and ends in the select with its calls' subqueries, whatever names the
-- recursive table has there.
pub record Inlined (f : Function) (slots : List Slot) (tables : ℕ) (goto : Goto) (ssa : Ssa)
    (anf : Anf) (tail : Tail) (q : CallingSelect) (written : Query) : Type 0 where
  pub name : List ℕ
  pub names : List (List ℕ)
  pub carried : Carried f slots tables goto ssa anf tail (carried_types (types_of f))
      (starts_of_calls (types_of f) f.result anf tail goto.entry q.select 1 q.calls)
      (filled_select (table_as name names (decimal tables)) (length tail.columns) q ∷ []) written
