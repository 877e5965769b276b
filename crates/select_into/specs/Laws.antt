-- What the entries of a SELECT INTO mean, and what they read.
use Rattle.std.specs.Prelude.{◌≡◌, ℕ, Bool, true, false, List, [], ◌∷◌, Option}
use Rattle.away_values.specs.declared.types.Ty.{Ty}
use Rattle.away_values.specs.declared.values.Value.{Value}
use Rattle.away_values.specs.declared.values.Value.TheVariants as val
use Rattle.away_values.specs.Results.{and_then, mapped}
use Rattle.away_trees.specs.declared.queries.Expr.{Expr}
use Rattle.away_trees.specs.declared.queries.Select.{Select}
use Rattle.away_trees.specs.Algebra.{select_of}
use Rattle.sql_meaning.specs.Context.{Rows, Context, at}
use Rattle.sql_meaning.specs.Meaning.{value, rows_of_select}
use Rattle.sql_meaning.specs.OneReturn.{body}
use Rattle.sql_meaning.specs.Reads.{fits, reading, reads, slots_of}
use Rattle.plsql_meaning.specs.Conversions.{converted_value}
use Rattle.plsql_meaning.specs.Sight.{query_of}
use Rattle.select_into.specs.Wrapped.{no_row, more_rows, pick_as, picked, select_slots}
use Rattle.select_into.specs.Entries.{unmarked}

abbrev pub is_empty : Rows → Bool
is_empty [] = true
is_empty (r ∷ rows) = false

abbrev pub has_two : Rows → Bool
has_two [] = false
has_two (r ∷ []) = false
has_two (r ∷ q ∷ rows) = true

-- without a row, one without values
abbrev pub first_row : Rows → List Value
first_row [] = []
first_row (r ∷ rows) = r

-- The select reads these slots and so many tables, and nothing else from outside.
pub record IsSource (slots : ℕ → Bool) (tables : ℕ) (s : Select) : Type 0 where
  pub alone : fits slots 0 tables (query_of s) ≡ true

-- Whether the select has no row, whether it has two or more, and each value of the first one, or
-- NULL, under a cast or without one. A class of the select is that of each.
pub record IsAsked (tables : List Rows) (env : List Value) (s : Select) : Type 0 where
  pub none : value (no_row s) (body tables env)
      ≡ mapped (λ rows. val.Bool (is_empty rows)) (rows_of_select s (body tables env))
  pub more : value (more_rows s) (body tables env)
      ≡ mapped (λ rows. val.Bool (has_two rows)) (rows_of_select s (body tables env))
  pub picks : (c : Option Ty) (place : ℕ) → value (pick_as c s place) (body tables env)
      ≡ and_then (rows_of_select s (body tables env))
      (λ rows. converted_value c (at (first_row rows) place))

abbrev pub AskTheSelect : Type 0
AskTheSelect =
    (slots : ℕ → Bool) (tables : ℕ) (s : Select) → IsSource slots tables s
    → (over : List Rows) (env : List Value) → IsAsked over env s

-- Each entry reads what the select reads, in its order.
pub record ReadsAs (s : Select) (e : Expr) : Type 0 where
  pub same : reads e ≡ reads (query_of s)

abbrev pub ReadAsTheSelect : Type 0
ReadAsTheSelect =
    (slots : ℕ → Bool) (tables : ℕ) (s : Select) → IsSource slots tables s
    → ReadsAs s (no_row s) × ReadsAs s (more_rows s)
    × ((c : Option Ty) (place : ℕ) → ReadsAs s (pick_as c s place))

-- Each entry reads the slots of the select, whatever else it reads.
pub record HasSlots (s : Select) (e : Expr) : Type 0 where
  pub same : slots_of e ≡ select_slots s

abbrev pub HaveItsSlots : Type 0
HaveItsSlots =
    (types : List Ty) (s : Select)
    → HasSlots s (no_row (unmarked s)) × HasSlots s (more_rows (unmarked s))
    × ((c : Option Ty) (place : ℕ) → HasSlots s (pick_as c (picked types s) place))

-- Where literal NULLs have types, and items no alias, the select has the same rows, and reads the
-- same.
abbrev pub KeepsRows : Type 0
KeepsRows =
    (types : List Ty) (s : Select)
    → ((cx : Context) → rows_of_select (picked types s) cx ≡ rows_of_select s cx)
    × (select_of reading (picked types s) ≡ select_of reading s)
