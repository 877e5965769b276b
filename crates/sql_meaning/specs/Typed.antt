-- The arguments of a function's types.
use Rattle.std.specs.Prelude.{List}
use Rattle.std.specs.List.{AllZip}
use Rattle.away_values.specs.declared.types.Ty.{Ty}
use Rattle.away_values.specs.declared.values.Value.{Value}
use Rattle.away_values.specs.Values.{HasType}

-- one value for each type, of that type
abbrev pub AreTyped : List Ty → List Value → Type 0
AreTyped = AllZip (λ t v. HasType v t)
