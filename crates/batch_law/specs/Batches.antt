-- What a query over many calls answers, by what each call's query answers alone.
use Rattle.std.specs.Prelude.{
  ◌≡◌,
  ◌⊎◌,
  ℕ,
  zero,
  suc,
  ◌<◌,
  ◌≤◌,
  Bool,
  true,
  false,
  pos,
  List,
  [],
  ◌∷◌,
  ◌++◌,
  map,
  filter,
  length,
  get_or,
  slice_get,
  decimal,
  Some,
  None,
  Ok,
  Err,
}
use Rattle.std.specs.Ordering.{is_lt}
use Rattle.away_trees.specs.declared.queries.Expr.{Expr}
use Rattle.away_trees.specs.declared.queries.Expr.TheVariants as expr
use Rattle.away_trees.specs.declared.queries.Expr.TheViews.{roll-Key, roll-Select}
use Rattle.away_trees.specs.declared.queries.Query.{Query}
use Rattle.away_trees.specs.declared.queries.Select.{Select}
use Rattle.away_trees.specs.declared.statements.Function.{Function}
use Rattle.away_types.specs.declared.slots.Slot.{Slot}
use Rattle.away_values.specs.declared.types.Ty.{Ty}
use Rattle.away_values.specs.declared.types.Ty.TheVariants as ty
use Rattle.away_values.specs.declared.values.Answer.{Answer}
use Rattle.away_values.specs.declared.values.Answer.TheVariants as answer
use Rattle.away_values.specs.declared.values.Class.{Class}
use Rattle.away_values.specs.declared.values.Value.{Value}
use Rattle.away_values.specs.declared.values.Value.TheVariants as val
use Rattle.sql_meaning.specs.Context.{Rows, at}
use Rattle.sql_meaning.specs.KeyOrder.{keys_cmp}
use Rattle.sql_meaning.specs.Selects.{sorted}
use Rattle.sql_meaning.specs.Trees.{col, item, number, truth, null_of, table_by, select}
use Rattle.sql_meaning.specs.Working.{rows, sql}
use Rattle.block_forms.specs.declared.forms.Goto.{Goto}
use Rattle.block_forms.specs.declared.forms.Ssa.{Ssa}
use Rattle.call_forms.specs.Carried.{Carried}
use Rattle.call_forms.specs.declared.forms.Anf.{Anf}
use Rattle.call_forms.specs.declared.forms.Tail.{Tail}
use Rattle.call_forms.specs.Forms.{params_of, label_of}
use Rattle.call_forms.specs.Scopes.{paired}
use Rattle.call_forms.specs.TailRuns.{label_or}
use Rattle.together.specs.Tables.{IsFine}
use Rattle.batch_law.specs.Starts.{working_table, Start, AllFine}

-- ---- the select over the recursive table, where one column is carried and n columns hold values

-- the carried value, the result and the class
abbrev pub batch_list : ℕ → List Expr
batch_list n = col 0 0 2 ∷ col 0 0 (suc (suc (suc n))) ∷ col 0 0 (suc (suc (suc (suc n)))) ∷ []

-- SELECT x0, res, err FROM r WHERE NOT go ORDER BY x0
abbrev pub final : List ℕ → ℕ → Select
final digits n =
    roll-Select (record {
      list = map item (batch_list n);
      from = table_by digits ∷ [];
      filter = Some (expr.Not (col 0 0 0));
      order = roll-Key (record { expr = col 0 0 2; descending = false }) ∷ [];
      limit = None;
    })

-- rows in the order of their first column, where rows with equal ones keep their order
abbrev pub by_first : Rows → Rows
by_first all =
    map (λ x. x.1)
    (sorted (λ xs ys. is_lt (keys_cmp (false ∷ []) xs ys))
    (map (λ (row : List Value). (at row 0 ∷ [], row)) all))

-- ---- the calls

-- the row of a call that has no answer at a bound and a value or a fault at the next: the carried
-- value, the value, and the fault's class
abbrev pub answer_row : Value → Answer → Answer → Rows
answer_row x answer.More (answer.Value v) = (x ∷ v ∷ val.Null ∷ []) ∷ []
answer_row x answer.More (answer.Fault c) = (x ∷ val.Null ∷ val.Text c.code ∷ []) ∷ []
answer_row x before now = []

module _ (one : Query) (tables : List Rows) where
  -- c is the class of the first call, in row order, that has met a fault of the engine by the i-th
  -- working table
  abbrev pub FaultsFirst : ℕ → Class → List Start → Type 0
  FaultsFirst i c [] = ⊥
  FaultsFirst i c (s ∷ ss) = (working_table one tables s.1 i ≡ Err c)
      ⊎ (IsFine (working_table one tables s.1 i) × FaultsFirst i c ss)

  -- some call has no answer at the bound
  abbrev pub SomeIsMore : ℕ → List Start → Type 0
  SomeIsMore k [] = ⊥
  SomeIsMore k (s ∷ ss) = (sql one tables s.1 k ≡ answer.More) ⊎ SomeIsMore k ss

  -- each call has an answer at the bound
  abbrev pub NoneIsMore : ℕ → List Start → Type 0
  NoneIsMore k [] = Unit {0}
  NoneIsMore k (s ∷ ss) = (sql one tables s.1 k ≡ answer.More → ⊥) × NoneIsMore k ss

  -- the rows of the calls that end in the i-th table, in row order
  abbrev pub ended_in : ℕ → List Start → Rows
  ended_in i [] = []
  ended_in i (s ∷ ss) =
      answer_row (at s.0 0) (sql one tables s.1 i) (sql one tables s.1 (suc i)) ++ ended_in i ss

  -- those of the calls that end before the k-th, table by table
  abbrev pub ended_before : ℕ → List Start → Rows
  ended_before zero ss = []
  ended_before (suc k) ss = ended_before k ss ++ ended_in k ss

  -- the rows of the answers at a bound, in row order
  abbrev pub answer_rows : ℕ → List Start → Rows
  answer_rows k [] = []
  answer_rows k (s ∷ ss) =
      answer_row (at s.0 0) answer.More (sql one tables s.1 k) ++ answer_rows k ss

  -- the rows of the calls that have ended, in order, are those of the answers, each as often
  abbrev pub AnswersOfEach : ℕ → List Start → Type 0
  AnswersOfEach k ss =
      (test : List Value → Bool)
      → length (filter test (by_first (ended_before k ss)))
      ≡ length (filter test (answer_rows k ss))

-- One of three is the case at a bound: some call has met a fault of the engine, or none has and
-- some has no answer, or none has and each has one.
pub data Case (one : Query) (tables : List Rows) (k : ℕ) (starts : List Start) : Type 0 where
  fault : (j : ℕ) (c : Class) → j ≤ k → ((i : ℕ) → i < j → AllFine one tables i starts)
      → FaultsFirst one tables j c starts → Case one tables k starts
  going : AllFine one tables k starts → SomeIsMore one tables k starts → Case one tables k starts
  over : AllFine one tables k starts → NoneIsMore one tables k starts → Case one tables k starts

-- What a query over many calls comes to at a bound, by what the query of one call comes to at each
-- call's arguments. The least j by which some call has met a fault of the engine gives the class,
-- that of the first such call in row order. Where none has by k and some call has no answer at k,
-- the query has none. Where each has one, the query has a row for each, by the carried column, and
-- on ties in the order of the table in which the call ended, and then in row order.
pub record IsBatch
    (q one : Query)
    (tables : List Rows)
    (args : List Value)
    (starts : List Start)
    (k : ℕ) : Type 0 where
  pub faults : (j : ℕ) (c : Class) → j ≤ k → ((i : ℕ) → i < j → AllFine one tables i starts)
      → FaultsFirst one tables j c starts
      → rows q tables args k ≡ Some (Err c)
  pub goes_on : AllFine one tables k starts → SomeIsMore one tables k starts
      → rows q tables args k ≡ None
  pub ends : AllFine one tables k starts → NoneIsMore one tables k starts
      → rows q tables args k ≡ Some (Ok (by_first (ended_before one tables k starts)))

-- ---- a query over the rows of a table

-- the carried value of a row, and behind it the arguments
abbrev pub start_of : List Value → Start
start_of [] = (val.Null ∷ [], [])
start_of (x ∷ vs) = (x ∷ [], vs)

-- the columns behind the first, in the places of the entry's parameters
abbrev pub column_cells : ℕ → List ℕ → List ℕ → List Ty → List Expr
column_cells i places params [] = []
column_cells i places params (t ∷ ts) =
    paired (λ p. col 0 0 (suc p)) (null_of t) places params i
    ∷ column_cells (suc i) places params ts

module _ (result : Ty) (anf : Anf) (tail : Tail) (entry : ℕ) where
  -- the label of the entry, counted from 0
  abbrev pub entry_place : ℕ
  entry_place = label_or (length tail.labels) (label_of tail entry)

  -- SELECT TRUE, entry label, first column, the others in their places, no result FROM the table
  -- with these digits
  abbrev pub first_of : List ℕ → Select
  first_of digits =
      let places : List ℕ = get_or tail.places entry_place [] in
      let params : List ℕ = params_of (slice_get anf.blocks entry) in
      let cells : List Expr = column_cells 0 places params tail.columns in
      let no_result : List Expr = null_of result ∷ null_of ty.Text ∷ [] in
      select (truth true ∷ number (pos (suc entry_place)) ∷ col 0 0 0 ∷ cells ++ no_result)
      (table_by digits ∷ []) None

-- The query carries the first column, begins with the rows of the table at this place, and ends in
-- the order of that column.
abbrev pub Batched : Function → List Slot → ℕ → Goto → Ssa → Anf → Tail → ℕ → Query → Type 0
Batched f slots tables goto ssa anf tail place q =
    Carried f slots tables goto ssa anf tail (ty.Bigint ∷ [])
    (first_of f.result anf tail goto.entry (decimal place) ∷ [])
    (final (decimal tables) (length tail.columns) ∷ []) q
