-- The words of a run over tables: its bound, and the values of its arguments.
use Rattle.std.specs.Prelude.{
  ℕ,
  ◌+◌,
  ◌^◌,
  Bool,
  ◌&&◌,
  ◌==◌,
  nat_le,
  nat_lt,
  if◌then◌else◌,
  List,
  [],
  ◌∷◌,
  length,
  Option,
  Some,
  None,
  option_map,
}
use Rattle.std.specs.List.{list_all}
use Rattle.std.specs.Option.{option_and_then}
use Rattle.away_values.specs.BigintSpellings.{number_of}
use Rattle.away_values.specs.declared.types.Ty.{Ty}
use Rattle.away_values.specs.declared.values.Value.{Value}
use Rattle.away_values.specs.declared.values.Value.TheVariants as val
use Rattle.csv_tables.specs.Cells.{value_of}

-- ---- the bound

-- one or more digits, as the number that they write, where it is at most 18,446,744,073,709,551,615
unfoldable pub bound_of : List ℕ → Option ℕ
bound_of word = option_and_then (λ n. if nat_lt n (2 ^ 64) then Some n else None) (number_of word)

-- ---- arguments; parameters are pairs of a number and a type, and count from 1

-- the type of the parameter of this number
abbrev pub type_of : List (ℕ × Ty) → ℕ → Option Ty
type_of [] number = None
type_of (p ∷ params) number = if p.0 == number then Some p.1 else type_of params number

-- the value that a word spells; where no type is asked any word will do, and stands for NULL
abbrev pub argument_of : Option Ty → List ℕ → Option Value
argument_of None word = Some val.Null
argument_of (Some t) word = value_of t word

-- the values of the words from a number on
unfoldable pub values_from : List (ℕ × Ty) → ℕ → List (List ℕ) → Option (List Value)
values_from params number [] = Some []
values_from params number (word ∷ words) =
    option_and_then (λ v. option_map (λ vs. v ∷ vs) (values_from params (number + 1) words)) (argument_of (type_of params number) word)

-- at least as many words as the greatest number of a parameter, and at most 64
abbrev pub are_enough : List (ℕ × Ty) → ℕ → Bool
are_enough params count = nat_le count 64 && list_all (λ p. nat_le p.0 count) params

-- the arguments of a query, which may have more of them than it uses
unfoldable pub values_of : List (ℕ × Ty) → List (List ℕ) → Option (List Value)
values_of params words = if are_enough params (length words) then values_from params 1 words else None

-- the values of a function's arguments: exactly one word for each parameter
unfoldable pub values_for : List (List ℕ × Ty) → List (List ℕ) → Option (List Value)
values_for [] [] = Some []
values_for [] (word ∷ words) = None
values_for (p ∷ params) [] = None
values_for (p ∷ params) (word ∷ words) =
    option_and_then (λ v. option_map (λ vs. v ∷ vs) (values_for params words)) (value_of p.1 word)
