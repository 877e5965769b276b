-- Worked examples: calls of collatz in the list of a query over one table.
use Rattle.std.specs.Prelude.{
  ◌≡◌,
  ℕ,
  pos,
  false,
  List,
  [],
  ◌∷◌,
  map,
  Option,
  Some,
  None,
  Ok,
  Err,
  codes,
}
use Rattle.away_trees.specs.declared.queries.Expr.{Expr}
use Rattle.away_trees.specs.declared.queries.Expr.TheVariants as expr
use Rattle.away_trees.specs.declared.queries.Expr.TheViews.{roll-Key, roll-Select}
use Rattle.away_trees.specs.declared.queries.Query.{Query}
use Rattle.away_values.specs.declared.operators.ChainOp.TheVariants as chain
use Rattle.away_values.specs.declared.operators.CmpOp.TheVariants as cmp
use Rattle.away_values.specs.declared.operators.IntOp.{IntOp}
use Rattle.away_values.specs.declared.operators.IntOp.TheVariants as op
use Rattle.away_values.specs.declared.types.Ty.TheVariants as ty
use Rattle.away_values.specs.declared.values.Value.{Value}
use Rattle.away_values.specs.declared.values.Value.TheVariants as val
use Rattle.away_values.specs.Results.{Or, class}
use Rattle.sql_meaning.specs.Context.{Rows, outermost}
use Rattle.sql_meaning.specs.Trees.{col, item, table_by}
use Rattle.sql_meaning.specs.Working.{rows}
use Rattle.plsql_meaning.specs.Equivalent.{answers}
use Rattle.block_forms.specs.Expressions.{expressions}
use Rattle.block_forms.specs.Worked.{collatz}
use Rattle.call_forms.specs.Carrying.{part_with, with_part}
use Rattle.call_forms.specs.Worked.{collatz_anf, collatz_tail}
use Rattle.batch_law.specs.FunctionAnswers.{CallAnswer}
use Rattle.inline_law.specs.Filled.{CallingSelect, filled}
use Rattle.inline_law.specs.Moved.{deeper}
use Rattle.inline_law.specs.Written.{
  carried_types,
  filled_select,
  starts_of_calls,
  table_as,
}

abbrev int : ℕ → Value
int n = val.Int (pos n)

abbrev nums : Rows
nums = (int 2 ∷ []) ∷ (int 1 ∷ []) ∷ (int 2 ∷ []) ∷ []

-- what collatz answers within so many turns
abbrev collatz_within : ℕ → CallAnswer
collatz_within n args =
    answers collatz ((ty.Bigint, false) ∷ (ty.Bigint, false) ∷ []) (nums ∷ []) args n

-- SELECT these FROM nums ORDER BY n, with calls of these arguments
abbrev calling : List Expr → List (List Expr) → CallingSelect
calling list calls = record {
  select = roll-Select (record {
    list = map item list;
    from = table_by (codes "0") ∷ [];
    filter = None;
    order = roll-Key (record { expr = col 0 0 0; descending = false }) ∷ [];
    limit = None;
  });
  calls = calls;
}

-- the written query
abbrev pub written : CallingSelect → Query
written q =
    with_part
    (part_with (expressions collatz) (λ n. ty.Bigint) (carried_types (ty.Bigint ∷ [])) ty.Bigint
    collatz_anf collatz_tail
    (starts_of_calls (ty.Bigint ∷ []) ty.Bigint collatz_anf collatz_tail 0 q.select 1 q.calls)
    (codes "1"))
    (filled_select (table_as (codes "away_r") [] (codes "1")) 2 q ∷ [])

abbrev pub rows_of : CallingSelect → ℕ → Option (Or Rows)
rows_of q k = rows (written q) (nums ∷ []) [] k

abbrev pub filled_within : CallingSelect → ℕ → Option (Or Rows)
filled_within q n = filled q (collatz_within n) (outermost (nums ∷ []) [])

-- ---- the queries

abbrev chained : IntOp → Expr → Expr → Expr
chained o a b = expr.Chain a ((chain.Int o, b) ∷ [])

-- SELECT n, collatz(n) + 1 FROM nums ORDER BY n
abbrev pub one_call : CallingSelect
one_call =
    calling (col 0 0 0 ∷ chained op.Add (expr.Slot 0) (expr.Int (pos 1)) ∷ [])
    ((col 0 0 0 ∷ []) ∷ [])

-- SELECT collatz(n), collatz(n + n) FROM nums ORDER BY n
abbrev pub two_calls : CallingSelect
two_calls =
    calling (expr.Slot 0 ∷ expr.Slot 1 ∷ [])
    ((col 0 0 0 ∷ []) ∷ (chained op.Add (col 0 0 0) (col 0 0 0) ∷ []) ∷ [])

-- SELECT collatz(n) / 0 FROM nums ORDER BY n
abbrev pub faulty_list : CallingSelect
faulty_list =
    calling (chained op.Div (expr.Slot 0) (expr.Int (pos 0)) ∷ []) ((col 0 0 0 ∷ []) ∷ [])

-- SELECT collatz(n / 0) FROM nums ORDER BY n
abbrev pub faulty_argument : CallingSelect
faulty_argument =
    calling (expr.Slot 0 ∷ []) ((chained op.Div (col 0 0 0) (expr.Int (pos 0)) ∷ []) ∷ [])

-- a column of a list, seen from one select further in, and one of an inner select
abbrev pub argument : Expr
argument = expr.Compare cmp.Eq (col 0 1 2) (col 3 0 0)

abbrev by_zero : Or Rows
by_zero = Err (class (codes "22012"))

abbrev two_ones : Rows
two_ones = (int 1 ∷ int 1 ∷ []) ∷ (int 2 ∷ int 2 ∷ []) ∷ (int 2 ∷ int 2 ∷ []) ∷ []

-- Collatz takes one turn from 2, and two from 4.
pub record WorkedQueries : Type 0 where
  pub filled : filled_within one_call 1 ≡ Some (Ok two_ones)
  pub too_few_turns : filled_within one_call 0 ≡ None
  pub ends : rows_of one_call 5 ≡ Some (Ok two_ones)
  pub goes_on : rows_of one_call 4 ≡ None
  pub both_filled : filled_within two_calls 2
      ≡ Some (Ok ((int 0 ∷ int 1 ∷ []) ∷ (int 1 ∷ int 2 ∷ []) ∷ (int 1 ∷ int 2 ∷ []) ∷ []))
  pub both_end : rows_of two_calls 9
      ≡ Some (Ok ((int 0 ∷ int 1 ∷ []) ∷ (int 1 ∷ int 2 ∷ []) ∷ (int 1 ∷ int 2 ∷ []) ∷ []))
  pub rest_filled : filled_within faulty_list 1 ≡ Some by_zero
  pub rest_faults : rows_of faulty_list 5 ≡ Some by_zero
  pub argument_faults : rows_of faulty_argument 0 ≡ Some by_zero
  pub argument_unfilled : filled_within faulty_argument 9 ≡ None
  pub further_in : deeper 1 argument ≡ expr.Compare cmp.Eq (col 1 1 2) (col 4 0 0)
