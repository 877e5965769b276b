-- A label and its row as a stepper, and the row of the working table that stands for it with what it carries.
use Rattle.std.proofs.Common.{◌≡◌, ℕ, List, map, length, Option, Some, None, refl}
use Rattle.std.specs.Prelude.{slice_get}
use Rattle.away_values.specs.declared.types.Ty.{Ty}
use Rattle.away_values.specs.declared.values.Value.{Value}
use Rattle.away_values.specs.declared.values.Value.TheVariants as val
use Rattle.away_values.specs.Results.{Or, mapped}
use Rattle.call_forms.specs.TailRuns.{AtLabel}
use Rattle.together.specs.Steppers.{Turn, goes, ends, stops, faults, Row, on, ended, left_by, leaves, carry, carrying}
use Rattle.cte_law.proofs.Branches.{visit_at}
use Rattle.cte_law.proofs.Visits.{Visited, gives, raises, goes_on, stays, rows_of_visit}
use Rattle.cte_law.proofs.Visits as visits
use Rattle.cte_law.proofs.WorkingRows.{call_row, end_row}
use Rattle.cte_law.proofs.Worlds.{World}

-- a result and a class, NULL where there is none
abbrev pub Ended : Type 0
Ended = Value × Value

abbrev pub turn_of : Visited → Turn AtLabel Ended
turn_of (gives v) = ends (v, val.Null)
turn_of (raises c) = ends (val.Null, val.Text c.code)
turn_of (visits.faults c) = faults c
turn_of (goes_on i row) = goes (i, row)
turn_of stays = ends (val.Null, val.Null)

-- the values that are carried, with a label and its row, or with an end
abbrev pub State : Type 0
State = Row (List Value × AtLabel) (List Value × Ended)

module _ (w : World) where
  abbrev pub at_block : AtLabel → Option ℕ → Turn AtLabel Ended
  at_block s None = stops
  at_block s (Some b) = turn_of (visit_at w s.0 b s.1)

  abbrev pub step_of : AtLabel → Turn AtLabel Ended
  step_of s = at_block s (slice_get w.tail.labels s.0)

  abbrev pub left : State → Or (List State)
  left = leaves (carrying step_of)

  abbrev pub row_of : State → List Value
  row_of (on p) = call_row p.0 p.1.0 p.1.1
  row_of (ended p) = end_row p.0 w.tail.columns p.1.0 p.1.1

  pub visit_rows : (xs : List Value) (x : Visited) → mapped (map row_of) (left_by (carry xs (turn_of x))) ≡ rows_of_visit w xs x
  visit_rows xs (gives v) = refl
  visit_rows xs (raises c) = refl
  visit_rows xs (visits.faults c) = refl
  visit_rows xs (goes_on i row) = refl
  visit_rows xs stays = refl

-- as many values as there are types
abbrev pub IsState : List Ty → State → Type 0
IsState carried (on p) = length p.0 ≡ length carried
IsState carried (ended p) = length p.0 ≡ length carried
