-- The rows of a recursive table that the condition of a query's only select keeps.
use Rattle.std.specs.Prelude.{
  ◌≡◌,
  ℕ,
  Bool,
  true,
  false,
  ◌==◌,
  ◌&&◌,
  List,
  [],
  ◌∷◌,
  ◌++◌,
  Option,
  Some,
  None,
  Ok,
  Err,
}
use Rattle.away_values.specs.declared.values.Class.{Class}
use Rattle.away_values.specs.declared.values.Value.{Value}
use Rattle.away_trees.specs.declared.queries.Expr.{Expr}
use Rattle.away_trees.specs.declared.queries.FromItem.{FromItem}
use Rattle.away_trees.specs.declared.queries.Query.{Query}
use Rattle.away_trees.specs.declared.queries.Recursive.{Recursive}
use Rattle.away_trees.specs.declared.queries.Select.{Select}
use Rattle.away_trees.specs.declared.queries.Source.{Source}
use Rattle.away_trees.specs.declared.queries.Source.TheVariants as source
use Rattle.away_trees.specs.declared.queries.Expr.TheViews.{out-FromItem, out-Query, out-Select}
use Rattle.away_values.specs.Results.{Or, and_then, mapped}
use Rattle.sql_meaning.specs.AtBound.{over_found, table_of}
use Rattle.sql_meaning.specs.Context.{Rows, outermost}
use Rattle.sql_meaning.specs.Selected.{keep_of, value_at}
use Rattle.sql_meaning.specs.Selects.{place_of}
use Rattle.sql_eval.specs.Places.{all_items, all_keys, optional_within}

-- ---- where it is enough to hold them

-- an item that takes its rows from the table at place n
abbrev pub source_stands : ℕ → List (List ℕ) → Source → Bool
source_stands n columns (source.Table name) = place_of columns == n
source_stands n columns _ = false

unfoldable pub stands_at : ℕ → FromItem → Bool
stands_at n f = source_stands n (out-FromItem f).columns (out-FromItem f).source

-- that table alone
abbrev pub stands_alone : ℕ → List FromItem → Bool
stands_alone n (f ∷ []) = stands_at n f
stands_alone n _ = false

-- its FROM is the table at place n alone, and all else in it reads only tables before that one
unfoldable pub is_suited : ℕ → Select → Bool
is_suited n s = stands_alone n (out-Select s).from &&
    (all_items n (out-Select s).list && (optional_within n (out-Select s).filter &&
    (all_keys n (out-Select s).order && optional_within n (out-Select s).limit)))

-- a query has one select, which is suited and has this condition
pub record IsFilter (q : Query) (n : ℕ) (e : Expr) : Type 0 where
  pub select : Select
  pub only : (out-Query q).selects ≡ select ∷ []
  pub suited : is_suited n select ≡ true
  pub filter : (out-Select select).filter ≡ Some e

-- ---- what is held

-- what the condition says of a row
unfoldable pub row_test : Expr → List Rows → List Value → List Value → Or Value
row_test e T args row = value_at (outermost T args) e (row ∷ [])

-- the rows kept so far, or the class that is held back
abbrev pub held_or : Option Class → Rows → Or Rows
held_or None kept = Ok kept
held_or (Some c) kept = Err c

-- the rows kept so far, and those of one more table
unfoldable pub kept_further : Expr → List Rows → List Value → Or Rows → Rows → Or Rows
kept_further e T args so_far now = and_then so_far (λ kept. mapped (λ more. kept ++ more) (keep_of (row_test e T args) now))

-- those of the recursive table, where there is one
unfoldable pub kept_found : Expr → List Rows → List Value → Option Rows → Or (Option Rows)
kept_found e T args None = Ok None
kept_found e T args (Some table) = mapped (λ rows. Some rows) (keep_of (row_test e T args) table)

unfoldable pub kept_table : Expr → Recursive → List Rows → List Value → ℕ → Or (Option Rows)
kept_table e r T args k = and_then (table_of r T args k) (kept_found e T args)

-- the selects over them
unfoldable pub over_kept : Query → Expr → Recursive → List Rows → List Value → ℕ → Or (Option Rows)
over_kept q e r T args k = and_then (kept_table e r T args k) (over_found q T args)
