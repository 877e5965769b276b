-- The functions of expressions by their names.
use Rattle.std.specs.Prelude.{
  ℕ,
  Bool,
  true,
  false,
  if◌then◌else◌,
  List,
  [],
  ◌∷◌,
  Option,
  Some,
  None,
  codes,
  bytes_eq,
}
use Rattle.away_names.specs.declared.function.Known.{Known}
use Rattle.away_names.specs.declared.function.Known.TheVariants.{
  Length,
  Substr,
  Coalesce,
  Greatest,
  Least,
  Count,
  Min,
  Max,
  Sum,
  BoolAnd,
  BoolOr,
}

abbrev pub named_by : List (List ℕ × Known) → List ℕ → Option Known
named_by [] name = None
named_by (f ∷ fs) name = if bytes_eq f.0 name then Some f.1 else named_by fs name

unfoldable pub function : List ℕ → Option Known
function =
    named_by ((codes "length", Length) ∷ (codes "substr", Substr) ∷ (codes "coalesce", Coalesce)
    ∷ (codes "greatest", Greatest) ∷ (codes "least", Least)
    ∷ (codes "count", Count) ∷ (codes "min", Min) ∷ (codes "max", Max) ∷ (codes "sum", Sum)
    ∷ (codes "bool_and", BoolAnd) ∷ (codes "bool_or", BoolOr) ∷ [])

unfoldable pub is_aggregate : Known → Bool
is_aggregate Count = true
is_aggregate Min = true
is_aggregate Max = true
is_aggregate Sum = true
is_aggregate BoolAnd = true
is_aggregate BoolOr = true
is_aggregate _ = false
