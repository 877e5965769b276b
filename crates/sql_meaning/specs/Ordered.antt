-- What it is that rows stand in an order which keeps ties as they were.
use Rattle.std.specs.Prelude.{
  ◌≡◌,
  ℕ,
  Bool,
  true,
  false,
  not,
  ◌&&◌,
  List,
  [],
  ◌∷◌,
  map,
  filter,
  length,
  zip,
  Ok,
}
use Rattle.std.specs.List.{AllByRecursion}
use Rattle.away_values.specs.declared.values.Value.{Value}
use Rattle.away_values.specs.Results.{Or, each, mapped}
use Rattle.sql_meaning.specs.Context.{Rows, Frame, Context, inside}
use Rattle.sql_meaning.specs.Expressions.{KeyMeaning}
use Rattle.sql_meaning.specs.Selects.{comes_before}

-- a row behind its keys
abbrev pub Keyed : Type 0
Keyed = List Value × List Value

-- whether one row of keys comes before another
abbrev pub Before : Type 0
Before = List Value → List Value → Bool

-- no two come before each other, and what comes before neither of two that are in order doesn't
-- come between
pub record IsOrder (before : Before) : Type 0 where
  pub never_both : (a b : List Value) → before a b ≡ true → before b a ≡ false
  pub passes_on : (a b c : List Value) → before b a ≡ false → before c b ≡ false → before c a ≡ false

-- neither comes before the other
abbrev pub ties : Before → List Value → List Value → Bool
ties before a b = not (before a b) && not (before b a)

-- no row comes before one that stands earlier
abbrev pub InOrder : Before → List Keyed → Type 0
InOrder before [] = Unit {0}
InOrder before (x ∷ xs) = AllByRecursion (λ (y : Keyed). before y.0 x.0 ≡ false) xs × InOrder before xs

-- the rows behind their keys, which are evaluated row by row over the columns of FROM
abbrev pub keyed : Context → List KeyMeaning → List Frame → Rows → Or (List Keyed)
keyed cx keys frames rows =
    each (λ x. mapped (λ ks. (ks, x.1)) (each (λ (s : KeyMeaning). s.value (inside x.0 cx)) keys)) (zip frames rows)

-- These are the same rows, none comes before one that stands earlier, and rows with equal keys
-- stand as they stood.
pub record IsSorted (before : Before) (old new : List Keyed) : Type 0 where
  pub same : (test : Keyed → Bool) → length (filter test new) ≡ length (filter test old)
  pub in_order : InOrder before new
  pub stable : (keys : List Value) → filter (λ x. ties before keys x.0) new ≡ filter (λ x. ties before keys x.0) old

-- The rows that ORDER BY gives are those of a list that is sorted by the keys.
abbrev pub IsOrdered : List KeyMeaning → List Keyed → Or Rows → Type 0
IsOrdered keys old result = (new : List Keyed) × IsSorted (comes_before keys) old new × (result ≡ Ok (map (λ x. x.1) new))
