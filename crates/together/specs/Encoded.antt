-- The tables of a recursive query whose rows stand for states.
use Rattle.std.specs.Prelude.{◌≡◌, ℕ, zero, suc, List, [], ◌∷◌, map, Option, Some, None, Ok, Err}
use Rattle.away_values.specs.declared.values.Value.{Value}
use Rattle.away_values.specs.Results.{Or, and_then, mapped}
use Rattle.sql_meaning.specs.Context.{Rows}
use Rattle.sql_meaning.specs.Working.{Bounded, worked}
use Rattle.together.specs.Tables.{turn, table_at, together}

-- the rows that stand for states, where the bound suffices
abbrev pub encoded : {R : Type 0} → (R → List Value) → Option (Or (List R)) → Bounded Rows
encoded row_of None = None
encoded row_of (Some o) = Some (mapped (map row_of) o)

-- each state is good
abbrev pub AllGood : {R : Type 0} → (R → Type 0) → List R → Type 0
AllGood Good [] = Unit {0}
AllGood Good (r ∷ rs) = Good r × AllGood Good rs

-- a fault, or good states
abbrev pub LeavesGood : {R : Type 0} → (R → Type 0) → Or (List R) → Type 0
LeavesGood Good (Ok rs) = AllGood Good rs
LeavesGood Good (Err c) = Unit {0}

-- The second term, over rows of good states, gives the rows of what the states leave, and these are
-- good.
pub record Encodes
    {R : Type 0}
    (leaves : R → Or (List R))
    (row_of : R → List Value)
    (Good : R → Type 0)
    (step : Rows → Or Rows) : Type 0 where
  pub turns : (rs : List R) → AllGood Good rs
      → step (map row_of rs) ≡ mapped (map row_of) (turn leaves rs)
  pub stay : (r : R) → Good r → LeavesGood Good (leaves r)

-- The recursive table at the bound k has the rows of the states.
abbrev pub TableOf : {R : Type 0} → (R → Or (List R)) → (R → List Value) → (Rows → Or Rows) → ℕ
    → List R → Type 0
TableOf leaves row_of step k rs = worked step k [] (Ok (map row_of rs))
    ≡ encoded row_of (together leaves k rs)

-- the working table i turns behind rows
abbrev pub by_steps : (Rows → Or Rows) → ℕ → Rows → Or Rows
by_steps step zero rows = Ok rows
by_steps step (suc i) rows = and_then (by_steps step i rows) step

-- The working table i turns behind has the rows of the states.
abbrev pub StepsOf : {R : Type 0} → (R → Or (List R)) → (R → List Value) → (Rows → Or Rows) → ℕ
    → List R → Type 0
StepsOf leaves row_of step i rs = by_steps step i (map row_of rs)
    ≡ mapped (map row_of) (table_at leaves i rs)
