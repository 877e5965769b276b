-- When a query is equivalent to a function, whatever the function's answers come from.
use Rattle.std.specs.Prelude.{◌≡◌, ◌≢◌, ℕ, ◌+◌, ◌*◌, List}
use Rattle.away_values.specs.declared.values.Value.{Value}
use Rattle.away_values.specs.declared.values.Answer.{Answer}
use Rattle.away_values.specs.declared.values.Answer.TheVariants as answer
use Rattle.away_trees.specs.declared.queries.Query.{Query}
use Rattle.sql_meaning.specs.Context.{Rows}
use Rattle.sql_meaning.specs.Working.{sql}

-- what a function answers over tables and arguments within so many turns
abbrev pub FunctionAnswer : Type 0
FunctionAnswer = List Rows → List Value → ℕ → Answer

-- Over all tables and arguments that fit: an answer that the function has within n turns is the
-- query's at `(n + 1) * weight + 1` iterations; where the function needs more than n turns the
-- query needs more than n iterations; and an answer that the query has at k iterations is the
-- function's within k turns.
pub record IsEquivalent (FitTables : List Rows → Type 0) (FitArgs : List Value → Type 0) (weight : ℕ) (f : FunctionAnswer) (q : Query) : Type 0 where
  pub ends : (T : List Rows) (args : List Value) (n : ℕ) → FitTables T → FitArgs args → f T args n ≢ answer.More
      → sql q T args ((n + 1) * weight + 1) ≡ f T args n
  pub goes_on : (T : List Rows) (args : List Value) (n : ℕ) → FitTables T → FitArgs args → f T args n ≡ answer.More → sql q T args n ≡ answer.More
  pub only : (T : List Rows) (args : List Value) (k : ℕ) → FitTables T → FitArgs args → sql q T args k ≢ answer.More → f T args k ≡ sql q T args k
