-- Names that are replaced by those that they are merged into, and renumbered.
use Rattle.std.specs.Prelude.{ℕ, Bool, List, get_or, nat_eq}

abbrev pub replacing : List ℕ → ℕ → ℕ
replacing into n = get_or into n n

-- a name that is merged into no other
abbrev pub is_end : (ℕ → ℕ) → ℕ → Bool
is_end into n = nat_eq (into n) n

abbrev pub new_name : List ℕ → List ℕ → ℕ → ℕ
new_name into numbers n = get_or numbers (replacing into n) 0
