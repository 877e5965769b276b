-- The worked examples of answers.
use Rattle.std.proofs.Common.{◌≡◌, ℕ, zero, suc, ◌+◌, Bool, true, false, if◌then◌else◌, List, [], ◌∷◌, map, filter, length, refl, ap, sym, ◌∙◌, arith}
use Rattle.std.specs.Prelude.{All, IsSortedByKey}
use Rattle.std.specs.List.{AllZip}
use Rattle.away_trees.specs.declared.statements.Stmt.TheBlock as b
use Rattle.away_trees.specs.declared.queries.Expr.TheBlock as e
use Rattle.away_trees.specs.declared.queries.Expr.TheViews as view
use Rattle.away_trees.specs.declared.schemas.ColumnSchema.{ColumnSchema}
use Rattle.away_trees.specs.Fits.{FitsColumn, FitsSchema}
use Rattle.away_values.specs.declared.types.Ty.TheVariants as ty
use Rattle.away_values.specs.declared.values.Value.{Value}
use Rattle.away_values.specs.Values.{HasType}
use Rattle.sql_meaning.specs.Context.{Rows, at}
use Rattle.sql_meaning.specs.KeyOrder.{value_cmp}
use Rattle.batch_law.specs.Batches.{start_of}
use Rattle.batch_law.specs.FunctionAnswers.{IsValueOrFault, Tells}
use Rattle.batch_law.specs.Starts.{Start}
use Rattle.batch_law.specs.Worked.{collatz_within, call_column, n_column, calls_schema, four_calls, four_answers, tied_answers, WorkedAnswers}
use Rattle.batch_law.proofs.FunctionAnswers.{all_of}

-- ---- rows that pass a test

abbrev bit : Bool → ℕ
bit true = 1
bit false = 0

module _ (test : List Value → Bool) where
  abbrev total : Rows → ℕ
  total [] = 0
  total (row ∷ rows) = bit (test row) + total rows

  longer : (b : Bool) (row : List Value) (rows : Rows) → length (if b then row ∷ rows else rows) ≡ bit b + length rows
  longer true row rows = omega arith
  longer false row rows = omega arith

  counted : (rows : Rows) → length (filter test rows) ≡ total rows
  counted [] = refl
  counted (row ∷ rows) = longer (test row) row (filter test rows) ∙ ap (λ n. bit (test row) + n) (counted rows)

  moved : (v w x y : List Value) → length (filter test (y ∷ w ∷ v ∷ x ∷ [])) ≡ length (filter test (v ∷ w ∷ x ∷ y ∷ []))
  moved v w x y = let one = counted (y ∷ w ∷ v ∷ x ∷ []) in let two = counted (v ∷ w ∷ x ∷ y ∷ []) in omega (arith, one, two)

  moved_last : (v w x y : List Value) → length (filter test (y ∷ v ∷ w ∷ x ∷ [])) ≡ length (filter test (v ∷ w ∷ x ∷ y ∷ []))
  moved_last v w x y = let one = counted (y ∷ v ∷ w ∷ x ∷ []) in let two = counted (v ∷ w ∷ x ∷ y ∷ []) in omega (arith, one, two)

abbrev key : List Value → Value
key row = at row 0

abbrev starts : List Start
starts = map start_of four_calls

true_false : true ≡ false → ⊥
true_false h = cc

all_over : All (λ (s : Start). IsValueOrFault (collatz_within 1 s.1)) starts
unfolding b.hidden-the_row-Stmt-0 b.hidden-the_row-Arm-1 e.hidden-the_row-Expr-0 e.hidden-the_row-Expr-Chain-1-2-1 e.hidden-the_row-Select-5 e.hidden-the_row-Item-6 e.hidden-the_row-FromItem-7 e.hidden-the_row-Key-8 view.roll-Select view.roll-Query denote.Hole.Carrier.hidden denote.Hole.Carrier.roll
all_over = all_of (λ (s : Start). IsValueOrFault (collatz_within 1 s.1)) starts (tt, (tt, (tt, (tt, tt))))

told : Tells (collatz_within 1) starts four_answers
unfolding b.hidden-the_row-Stmt-0 b.hidden-the_row-Arm-1 e.hidden-the_row-Expr-0 e.hidden-the_row-Expr-Chain-1-2-1 e.hidden-the_row-Select-5 e.hidden-the_row-Item-6 e.hidden-the_row-FromItem-7 e.hidden-the_row-Key-8 view.roll-Select view.roll-Query denote.Hole.Carrier.hidden denote.Hole.Carrier.roll
told = record { over = all_over; same = λ test. moved test _ _ _ _; ascending = ascends }
  where
    ascends : IsSortedByKey key value_cmp four_answers
    ascends zero d low less = refl
    ascends (suc zero) d low less = refl
    ascends (suc (suc zero)) d low less = refl
    ascends (suc (suc (suc k))) d low less = absurd (omega (arith, less))

tied : Tells (collatz_within 1) starts tied_answers
unfolding b.hidden-the_row-Stmt-0 b.hidden-the_row-Arm-1 e.hidden-the_row-Expr-0 e.hidden-the_row-Expr-Chain-1-2-1 e.hidden-the_row-Select-5 e.hidden-the_row-Item-6 e.hidden-the_row-FromItem-7 e.hidden-the_row-Key-8 view.roll-Select view.roll-Query denote.Hole.Carrier.hidden denote.Hole.Carrier.roll
tied = record { over = all_over; same = λ test. moved_last test _ _ _ _; ascending = ascends }
  where
    ascends : IsSortedByKey key value_cmp tied_answers
    ascends zero d low less = refl
    ascends (suc zero) d low less = refl
    ascends (suc (suc zero)) d low less = refl
    ascends (suc (suc (suc k))) d low less = absurd (omega (arith, less))

column : (c : ColumnSchema) → c.not_null ≡ false → (v : Value) → HasType v c.ty → FitsColumn c v
column c free v h = record { typed = h; there = λ e. absurd (true_false (sym e ∙ free)) }

fits : FitsSchema calls_schema (four_calls ∷ [])
fits = (
  all_of (λ (row : List Value). AllZip FitsColumn (call_column ∷ n_column ∷ []) row) four_calls
      (pair _ _ refl refl, (pair _ _ refl refl, (pair _ _ tt refl, (pair _ _ refl refl, tt)))),
  tt,
)
  where
    pair : (v w : Value) → HasType v ty.Bigint → HasType w ty.Bigint → AllZip FitsColumn (call_column ∷ n_column ∷ []) (v ∷ w ∷ [])
    pair v w g h = (column call_column refl v g, (column n_column refl w h, tt))

pub answers_are : WorkedAnswers
unfolding b.hidden-the_row-Stmt-0 b.hidden-the_row-Arm-1 e.hidden-the_row-Expr-0 e.hidden-the_row-Expr-Chain-1-2-1 e.hidden-the_row-Select-5 e.hidden-the_row-Item-6 e.hidden-the_row-FromItem-7 e.hidden-the_row-Key-8 view.roll-Select view.roll-Query denote.Hole.Carrier.hidden denote.Hole.Carrier.roll
answers_are = record {
  told = told;
  tied = tied;
  in_row_order = λ h. true_false (h.ascending 2 [] (omega arith) (omega arith));
  a_turn_too_few = λ found h. h.over 0 ([], []) (omega arith);
  calls = record { table = _; is = refl; types = refl };
  fits = fits;
}
