-- SELECT t.k INTO STRICT a FROM t, over tables with no row, one and two.
use Rattle.std.specs.Prelude.{
  ◌≡◌,
  ℕ,
  true,
  false,
  pos,
  List,
  [],
  ◌∷◌,
  Some,
  None,
  Ok,
  Err,
  codes,
}
use Rattle.away_values.specs.declared.types.Ty.TheVariants as ty
use Rattle.away_values.specs.declared.values.Value.{Value}
use Rattle.away_values.specs.declared.values.Value.TheVariants as val
use Rattle.away_values.specs.Results.{Or, class}
use Rattle.away_trees.specs.declared.queries.Expr.{Expr}
use Rattle.away_trees.specs.declared.queries.Expr.TheVariants as expr
use Rattle.away_trees.specs.declared.queries.Expr.TheViews.{roll-Item, roll-Select}
use Rattle.away_trees.specs.declared.queries.Select.{Select}
use Rattle.sql_meaning.specs.Context.{Rows}
use Rattle.sql_meaning.specs.Meaning.{value}
use Rattle.sql_meaning.specs.OneReturn.{body}
use Rattle.sql_meaning.specs.Trees.{col, table_by, select}
use Rattle.select_into.specs.Entries.{into_entries}
use Rattle.select_into.specs.Wrapped.{no_row, more_rows, pick, pick_as, picked}

abbrev pub int : ℕ → Value
int n = val.Int (pos n)

abbrev pub row : ℕ → List Value
row n = int n ∷ []

-- SELECT t.k FROM t
abbrev pub keys : Select
keys = select (col 0 0 0 ∷ []) (table_by (48 ∷ []) ∷ []) None

-- SELECT NULL FROM t
abbrev pub nothing : Select
nothing = select (expr.Null ∷ []) (table_by (48 ∷ []) ∷ []) None

-- SELECT t.k FROM t, where the item is to be converted
abbrev pub marked_keys : Select
marked_keys =
    roll-Select (record {
      list = roll-Item (record { expr = col 0 0 0; alias = Some (codes "a") }) ∷ [];
      from = table_by (48 ∷ []) ∷ [];
      filter = None;
      order = [];
      limit = None;
    })

-- its value where t has these rows
abbrev pub over : Rows → Expr → Or Value
over rows e = value e (body (rows ∷ []) [])

pub record WorkedEntries : Type 0 where
  pub none : over [] (no_row keys) ≡ Ok (val.Bool true)
  pub one : over (row 7 ∷ []) (no_row keys) ≡ Ok (val.Bool false)
  pub one_alone : over (row 7 ∷ []) (more_rows keys) ≡ Ok (val.Bool false)
  pub two : over (row 7 ∷ row 8 ∷ []) (more_rows keys) ≡ Ok (val.Bool true)
  pub first : over (row 7 ∷ row 8 ∷ []) (pick keys 0) ≡ Ok (int 7)
  pub null : over [] (pick keys 0) ≡ Ok val.Null
  pub typed : picked (ty.Bigint ∷ []) nothing
      ≡ select (expr.Cast expr.Null ty.Bigint ∷ []) (table_by (48 ∷ []) ∷ []) None
  pub strict : into_entries (ty.Text ∷ ty.Bigint ∷ []) true ((codes "a", Some 1) ∷ []) keys
      ≡ no_row keys ∷ more_rows keys ∷ pick keys 0 ∷ []
  pub lenient :
      into_entries (ty.Text ∷ ty.Bigint ∷ []) false
      ((codes "a", Some 1) ∷ (codes "b", Some 0) ∷ []) nothing
      ≡ pick (picked (ty.Bigint ∷ ty.Text ∷ []) nothing) 0
      ∷ pick (picked (ty.Bigint ∷ ty.Text ∷ []) nothing) 1
      ∷ []
  pub converted : into_entries (ty.Integer ∷ []) true ((codes "a", Some 0) ∷ []) marked_keys
      ≡ no_row keys ∷ more_rows keys ∷ expr.Cast (pick keys 0) ty.Integer ∷ []
  pub cast_fits : over (row 7 ∷ []) (pick_as (Some ty.Integer) keys 0) ≡ Ok (int 7)
  pub cast_fails : over (row 2147483648 ∷ []) (pick_as (Some ty.Integer) keys 0)
      ≡ Err (class (codes "22003"))
