-- What is sure of a list, and what it weighs, from a place on.
use Rattle.std.proofs.Common.{ℕ, Bool, List, map, drop}
use Rattle.std.specs.List.{list_all}
use Rattle.turn_terms.specs.Choosing.{sum_of}

abbrev pub all_from : {A B : Type 0} → (B → Bool) → (A → B) → List A → ℕ → Bool
all_from p f xs i = list_all p (map f (drop i xs))

abbrev pub sum_from : {A B : Type 0} → (B → ℕ) → (A → B) → List A → ℕ → ℕ
sum_from g f xs i = sum_of g (map f (drop i xs))
