-- The least bound at which a query has an answer.
use Rattle.std.specs.Prelude.{
  ◌≡◌,
  ◌≢◌,
  ℕ,
  zero,
  suc,
  ◌≤◌,
  ◌<◌,
  List,
  [],
  ◌∷◌,
  Option,
  Some,
  None,
  Ok,
  Err,
}
use Rattle.away_values.specs.declared.values.Value.{Value}
use Rattle.away_values.specs.declared.values.Answer.TheVariants as answer
use Rattle.away_trees.specs.declared.queries.Query.{Query}
use Rattle.away_trees.specs.declared.queries.Recursive.{Recursive}
use Rattle.away_values.specs.Results.{Or}
use Rattle.sql_meaning.specs.Context.{Rows, outermost}
use Rattle.sql_meaning.specs.Equations.{recursive_part}
use Rattle.sql_meaning.specs.Working.{next_rows, sql}

-- the query has an answer at k, which is within the bound, and needs more at every lesser one
pub record IsLeastBound (q : Query) (tables : List Rows) (args : List Value) (bound k : ℕ) : Type 0 where
  pub within : k ≤ bound
  pub ended : sql q tables args k ≢ answer.More
  pub not_before : (j : ℕ) → j < k → sql q tables args j ≡ answer.More

-- None where the query needs more at the bound, else the least bound at which it has an answer
abbrev pub IsLength : Query → List Rows → List Value → ℕ → Option ℕ → Type 0
IsLength q tables args bound None = sql q tables args bound ≡ answer.More
IsLength q tables args bound (Some k) = IsLeastBound q tables args bound k

-- how many working tables follow the first one up to one that is empty or faults, where `used` have
-- done so and at most `left` more may
unfoldable pub ended_after : (Rows → Or Rows) → ℕ → ℕ → Or Rows → Option ℕ
ended_after step left used (Err c) = Some used
ended_after step left used (Ok []) = Some used
ended_after step zero used (Ok (row ∷ more)) = None
ended_after step (suc left) used (Ok (row ∷ more)) = ended_after step left (suc used) (step (row ∷ more))

unfoldable pub length_within : Recursive → List Rows → List Value → ℕ → Option ℕ
length_within r tables args k = ended_after (next_rows (recursive_part r) tables args) k 0 ((recursive_part r).first (outermost tables args))
