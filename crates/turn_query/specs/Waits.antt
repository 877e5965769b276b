-- How the names that wait are passed to columns.
use Rattle.std.specs.Prelude.{ℕ, Bool, false, List, drop, Option, Some, None}

-- what follows where so many of the names have their cells
abbrev pub goes_on : List ℕ → (List ℕ → Bool) → Option ℕ → Bool
goes_on waits more None = false
goes_on waits more (Some n) = more (drop n waits)
