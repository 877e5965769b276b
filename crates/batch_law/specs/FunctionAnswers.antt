-- What a query over many calls answers, by what a function answers at each call.
use Rattle.std.specs.Prelude.{
  ◌≡◌,
  ℕ,
  ◌+◌,
  ◌*◌,
  Bool,
  List,
  [],
  ◌∷◌,
  map,
  filter,
  length,
  All,
  Any,
  IsSortedByKey,
  Some,
  None,
  Ok,
  Err,
}
use Rattle.away_trees.specs.declared.queries.Query.{Query}
use Rattle.away_values.specs.declared.values.Answer.{Answer}
use Rattle.away_values.specs.declared.values.Answer.TheVariants as answer
use Rattle.away_values.specs.declared.values.Class.{Class}
use Rattle.away_values.specs.declared.values.Value.{Value}
use Rattle.away_values.specs.declared.values.Value.TheVariants as val
use Rattle.sql_meaning.specs.Context.{Rows, at}
use Rattle.sql_meaning.specs.KeyOrder.{value_cmp}
use Rattle.sql_meaning.specs.Working.{rows}
use Rattle.batch_law.specs.Starts.{Start}

abbrev pub HasValue : Answer → Type 0
HasValue (answer.Value v) = Unit {0}
HasValue a = ⊥

abbrev pub IsValueOrFault : Answer → Type 0
IsValueOrFault (answer.Value v) = Unit {0}
IsValueOrFault (answer.Fault c) = Unit {0}
IsValueOrFault a = ⊥

-- the row of a call: the value that its start carries first, and a value with no SQLSTATE or a
-- SQLSTATE with no value
abbrev pub call_row : Value → Answer → List Value
call_row x (answer.Value v) = x ∷ v ∷ val.Null ∷ []
call_row x (answer.Fault c) = x ∷ val.Null ∷ val.Text c.code ∷ []
call_row x a = x ∷ val.Null ∷ val.Null ∷ []

-- what a function answers at arguments
abbrev pub CallAnswer : Type 0
CallAnswer = List Value → Answer

abbrev pub call_rows : CallAnswer → List Start → Rows
call_rows answers = map (λ s. call_row (at s.0 0) (answers s.1))

-- The rows tell the answers of the calls: each call has a value or a fault, the rows are those of
-- the calls, each as often, and they ascend by their first column, where NULL is last.
pub record Tells (answers : CallAnswer) (starts : List Start) (found : Rows) : Type 0 where
  pub over : All (λ s. IsValueOrFault (answers s.1)) starts
  pub same : (test : List Value → Bool)
      → length (filter test found) ≡ length (filter test (call_rows answers starts))
  pub ascending : IsSortedByKey (λ row. at row 0) value_cmp found

-- A query over many calls answers as a function does at each call, where `answers args n` is what
-- the function answers within n turns. Where each call has a value within n turns, the query tells
-- these at `(n + 1) * weight + 1` iterations. Rows that the query has at k iterations tell the
-- answers within k turns, and a class is that of some call within k turns. Where the query has no
-- answer at `(n + 1) * weight + 1` iterations, some call needs more than n turns.
pub record AnswersAsCalls (q : Query) (tables : List Rows) (starts : List Start) (weight : ℕ)
    (answers : List Value → ℕ → Answer) : Type 0 where
  pub values : (n : ℕ) → All (λ s. HasValue (answers s.1 n)) starts
      → (found : Rows) × (rows q tables [] ((n + 1) * weight + 1) ≡ Some (Ok found))
      × Tells (λ args. answers args n) starts found
  pub list : (k : ℕ) (found : Rows) → rows q tables [] k ≡ Some (Ok found)
      → Tells (λ args. answers args k) starts found
  pub fault : (k : ℕ) (c : Class) → rows q tables [] k ≡ Some (Err c)
      → Any (λ s. answers s.1 k ≡ answer.Fault c) starts
  pub more : (n : ℕ) → rows q tables [] ((n + 1) * weight + 1) ≡ None
      → Any (λ s. answers s.1 n ≡ answer.More) starts
