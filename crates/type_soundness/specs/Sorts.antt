-- The sort of a value: of which type it is, whatever its size. A count is a whole number also where
-- a group has more rows than a bigint can say, and only what is a value is within the range of
-- bigint or the length of a text.
use Rattle.std.specs.Prelude.{◌≡◌, true, List, [], ◌∷◌}
use Rattle.away_values.specs.declared.types.Ty.{Ty}
use Rattle.away_values.specs.declared.types.Ty.TheVariants as ty
use Rattle.away_values.specs.declared.values.Value.{Value}
use Rattle.away_values.specs.declared.values.Value.TheVariants as val
use Rattle.away_values.specs.Operators.{fits_small}

-- NULL, or of the type's sort; an integer has 32 bits
abbrev pub IsOf : Ty → Value → Type 0
IsOf t val.Null = Unit {0}
IsOf ty.Bigint (val.Int n) = Unit {0}
IsOf ty.Integer (val.Int n) = fits_small n ≡ true
IsOf ty.Boolean (val.Bool b) = Unit {0}
IsOf ty.Text (val.Text t) = Unit {0}
IsOf _ _ = ⊥

abbrev pub Every : {A : Type 0} → (A → Type 0) → List A → Type 0
Every P [] = Unit {0}
Every P (x ∷ xs) = P x × Every P xs
