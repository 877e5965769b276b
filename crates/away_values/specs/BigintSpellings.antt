-- What a bigint is written as (PostgreSQL manual, Lexical Structure, Numeric Constants): an
-- optional sign and one or more decimal digits, which is a number in range.
use Rattle.std.specs.Prelude.{
  ℕ,
  if◌then◌else◌,
  nat_eq,
  ℤ,
  pos,
  neg_ℤ,
  List,
  [],
  ◌∷◌,
  Option,
  Some,
  None,
}
use Rattle.std.specs.Str.{all_ascii_digits}
use Rattle.std.specs.Str.Parse.{digits_value}
use Rattle.away_values.specs.Operators.{fits}

-- one or more digits, as the number that they write
abbrev pub number_of : List ℕ → Option ℕ
number_of [] = None
number_of (c ∷ cs) = if all_ascii_digits (c ∷ cs) then Some (digits_value 10 (c ∷ cs)) else None

abbrev pub in_range : ℤ → Option ℤ
in_range n = if fits n then Some n else None

abbrev pub signed : (ℕ → ℤ) → Option ℕ → Option ℤ
signed sign None = None
signed sign (Some n) = in_range (sign n)

-- The bigint that a text writes: `-` is 45 and `+` is 43. None where the text isn't the spelling of
-- a bigint.
abbrev pub bigint_of : List ℕ → Option ℤ
bigint_of [] = None
bigint_of (c ∷ cs) = if nat_eq c 45 then signed (λ n. neg_ℤ (pos n)) (number_of cs)
    else (if nat_eq c 43 then signed pos (number_of cs) else signed pos (number_of (c ∷ cs)))
