-- What the query of turns answers.
use Rattle.std.specs.Prelude.{◌≡◌, ℕ, suc, ◌*◌, ◌<◌, ◌≤◌, List}
use Rattle.away_trees.specs.declared.queries.Query.{Query}
use Rattle.away_values.specs.declared.values.Answer.TheVariants as answer
use Rattle.away_values.specs.declared.values.Value.{Value}
use Rattle.sql_meaning.specs.Context.{Rows}
use Rattle.sql_meaning.specs.Working.{sql}
use Rattle.block_forms.specs.Machines.{IsOver, Ran}

-- An answer of the run of m visits is the query's at n + 1 iterations, where n times k is at least
-- m, less one. Where the run visits more than n times k heads,
-- the query has no answer at n.
pub record AnswersInTurns (k : ℕ) (q : Query) (tables : List Rows) (args : List Value) (runs : ℕ → Ran) : Type 0 where
  pub ends : (m n : ℕ) → m ≤ suc (n * k) → IsOver (runs m).answer → sql q tables args (suc n) ≡ (runs m).answer
  pub goes_on : (m n : ℕ) → n * k < (runs m).heads → sql q tables args n ≡ answer.More

-- An answer of the run of m visits is the query's at i + 1 iterations, where i times k is at least
-- as many as the heads that the run visited.
pub record AnswersByHeads (k : ℕ) (q : Query) (tables : List Rows) (args : List Value) (runs : ℕ → Ran) : Type 0 where
  pub ends : (m i : ℕ) → IsOver (runs m).answer → (runs m).heads ≤ i * k → sql q tables args (suc i) ≡ (runs m).answer
