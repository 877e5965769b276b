-- The laws over rows of values, where a contract can state them: the lemmas have them over any
-- states.
use Rattle.std.specs.Prelude.{ℕ, List}
use Rattle.away_values.specs.declared.values.Value.{Value}
use Rattle.away_values.specs.Results.{Or}
use Rattle.sql_meaning.specs.Context.{Rows}
use Rattle.together.specs.Tables.{IsTogether, IsJoined, Case}
use Rattle.together.specs.Steppers.{Turn, StepsTogether, EndsOfEach}

abbrev pub RowsTakeTurns : Type 0
RowsTakeTurns = (leaves : List Value → Or Rows) (k : ℕ) (rows : Rows) → IsTogether leaves k rows

abbrev pub TablesAreJoined : Type 0
TablesAreJoined = (leaves : List Value → Or Rows) (i : ℕ) (rows : Rows) → IsJoined leaves i rows

abbrev pub OneIsTheCase : Type 0
OneIsTheCase = (leaves : List Value → Or Rows) (k : ℕ) (rows : Rows) → Case leaves k rows

abbrev pub SteppersTakeTurns : Type 0
SteppersTakeTurns = (step : List Value → Turn (List Value) (List Value)) (k : ℕ) (starts : Rows)
    → StepsTogether step k starts

abbrev pub EachEndIsThere : Type 0
EachEndIsThere = (step : List Value → Turn (List Value) (List Value)) (k : ℕ) (starts : Rows)
    → EndsOfEach step k starts
