-- Words for the laws of working tables.
use Rattle.std.specs.Prelude.{◌≡◌, ℕ, ◌<◌, List, ◌∷◌, Ok}
use Rattle.away_values.specs.declared.values.Value.{Value}
use Rattle.away_values.specs.Results.{Or}
use Rattle.sql_meaning.specs.Context.{Rows}
use Rattle.sql_meaning.specs.Expressions.{RecursiveMeaning}
use Rattle.sql_meaning.specs.Working.{working}

-- neither empty nor at fault
abbrev pub IsFilled : Or Rows → Type 0
IsFilled o = (row : List Value) × (more : Rows) × (o ≡ Ok (row ∷ more))

-- the working tables before the i-th
abbrev pub AreFilledBefore : RecursiveMeaning → List Rows → List Value → ℕ → Type 0
AreFilledBefore r tables args i = (j : ℕ) → j < i → IsFilled (working r tables args j)
