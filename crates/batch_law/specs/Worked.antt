-- Worked examples: many calls of a function with a loop.
use Rattle.std.specs.Prelude.{
  ◌≡◌,
  ℕ,
  pos,
  false,
  List,
  [],
  ◌∷◌,
  map,
  Some,
  None,
  Ok,
  Err,
  codes,
}
use Rattle.away_trees.specs.declared.queries.Query.{Query}
use Rattle.away_trees.specs.declared.schemas.ColumnSchema.{ColumnSchema}
use Rattle.away_trees.specs.declared.schemas.Schema.{Schema}
use Rattle.away_trees.specs.Fits.{FitsSchema}
use Rattle.away_values.specs.declared.types.Ty.TheVariants as ty
use Rattle.away_values.specs.declared.values.Value.{Value}
use Rattle.away_values.specs.declared.values.Value.TheVariants as val
use Rattle.away_values.specs.Results.{class}
use Rattle.sql_meaning.specs.Context.{Rows}
use Rattle.sql_meaning.specs.Working.{rows}
use Rattle.plsql_meaning.specs.Equivalent.{answers}
use Rattle.block_forms.specs.Expressions.{expressions}
use Rattle.block_forms.specs.Worked.{collatz}
use Rattle.call_forms.specs.Carrying.{part_with, with_part}
use Rattle.call_forms.specs.Worked.{collatz_anf, collatz_tail}
use Rattle.batch_law.specs.Batches.{first_of, final, start_of}
use Rattle.batch_law.specs.CallTables.{IsCallTable}
use Rattle.batch_law.specs.FunctionAnswers.{CallAnswer, Tells}

-- calls of collatz over the rows of one table
abbrev pub collatz_batch : Query
collatz_batch =
    with_part
    (part_with (expressions collatz) (λ n. ty.Bigint) (ty.Bigint ∷ []) ty.Bigint
    collatz_anf collatz_tail
    (first_of ty.Bigint collatz_anf collatz_tail 0 (codes "0") ∷ []) (codes "1"))
    (final (codes "1") 2 ∷ [])

abbrev int : ℕ → Value
int n = val.Int (pos n)

-- two calls with one number, of which the second ends first, one with no number, and one with a
-- smaller number
abbrev pub four_calls : Rows
four_calls =
    (int 5 ∷ int 2 ∷ [])
    ∷ (int 5 ∷ int 1 ∷ [])
    ∷ (val.Null ∷ int 1 ∷ [])
    ∷ (int 3 ∷ int 2 ∷ [])
    ∷ []

abbrev row : Value → ℕ → List Value
row x n = x ∷ int n ∷ val.Null ∷ []

-- their answers, in order: of the two with one number, that of the second first
abbrev pub four_answers : Rows
four_answers = row (int 3) 1 ∷ row (int 5) 0 ∷ row (int 5) 1 ∷ row val.Null 0 ∷ []

-- the last call ends in the fourth turn
pub record WorkedBatches : Type 0 where
  pub goes_on : rows collatz_batch (four_calls ∷ []) [] 4 ≡ None
  pub ends : rows collatz_batch (four_calls ∷ []) [] 5 ≡ Some (Ok four_answers)
  pub no_calls : rows collatz_batch ([] ∷ []) [] 0 ≡ Some (Ok [])
  pub faults : rows collatz_batch (((int 4 ∷ int 9223372036854775807 ∷ []) ∷ four_calls) ∷ []) [] 9
      ≡ Some (Err (class (codes "22003")))

-- ---- the function's answers

-- the same where that of the first stands first
abbrev pub tied_answers : Rows
tied_answers = row (int 3) 1 ∷ row (int 5) 1 ∷ row (int 5) 0 ∷ row val.Null 0 ∷ []

-- what collatz answers within so many turns
abbrev pub collatz_within : ℕ → CallAnswer
collatz_within n args = answers collatz ((ty.Bigint, false) ∷ (ty.Bigint, false) ∷ []) (four_calls ∷ []) args n

-- a table of calls of collatz
abbrev pub call_column : ColumnSchema
call_column = record { name = codes "call"; ty = ty.Bigint; not_null = false }

abbrev pub n_column : ColumnSchema
n_column = record { name = codes "n"; ty = ty.Bigint; not_null = false }

abbrev pub calls_schema : Schema
calls_schema = record {
  tables = record { name = codes "calls"; columns = call_column ∷ n_column ∷ [] } ∷ [];
}

-- From 2 collatz takes one turn. Rows with one number stand in any order, others don't.
pub record WorkedAnswers : Type 0 where
  pub told : Tells (collatz_within 1) (map start_of four_calls) four_answers
  pub tied : Tells (collatz_within 1) (map start_of four_calls) tied_answers
  pub in_row_order : Tells (collatz_within 1) (map start_of four_calls)
      (row (int 5) 1 ∷ row (int 5) 0 ∷ row val.Null 0 ∷ row (int 3) 1 ∷ []) → ⊥
  pub a_turn_too_few : (found : Rows) → Tells (collatz_within 0) (map start_of four_calls) found → ⊥
  pub calls : IsCallTable calls_schema 0 collatz
  pub fits : FitsSchema calls_schema (four_calls ∷ [])
