-- What a list says of the slots of a body: the type of each, and whether it is NOT NULL.
use Rattle.std.specs.Prelude.{ℕ, Bool, false, List, get_or, map}
use Rattle.away_values.specs.declared.types.Ty.{Ty}

abbrev pub types_in : List (Ty × Bool) → List Ty
types_in slots = map (λ (x : Ty × Bool). x.0) slots

abbrev pub no_nulls : List (Ty × Bool) → List Bool
no_nulls slots = map (λ (x : Ty × Bool). x.1) slots

-- whether a slot is NOT NULL
abbrev pub no_null : List (Ty × Bool) → ℕ → Bool
no_null slots i = get_or (no_nulls slots) i false
