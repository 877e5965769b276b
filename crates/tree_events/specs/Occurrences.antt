-- Whether a slot stands in a list.
use Rattle.std.specs.Prelude.{ℕ, Bool, true, false, if◌then◌else◌, ◌==◌, List, [], ◌∷◌, ◌++◌}

abbrev pub contains : ℕ → List ℕ → Bool
contains k [] = false
contains k (x ∷ xs) = if x == k then true else contains k xs

-- the list with a slot that stands in it once
unfoldable pub kept_with : ℕ → List ℕ → List ℕ
kept_with k xs = if contains k xs then xs else xs ++ k ∷ []
