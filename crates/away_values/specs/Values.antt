-- What it is to be a value, and to be one of a type (PostgreSQL manual, Data Types).
use Rattle.std.specs.Prelude.{◌≡◌, ℕ, true, false, not, eqb, List, ◌≤◌, sum_by}
use Rattle.std.specs.List.{list_all}
use Rattle.std.specs.Str.{all_scalars}
use Rattle.away_values.specs.declared.values.Value.{Value}
use Rattle.away_values.specs.declared.values.Value.TheVariants as val
use Rattle.away_values.specs.declared.types.Ty.{Ty}
use Rattle.away_values.specs.declared.types.Ty.TheVariants as ty
use Rattle.away_values.specs.Operators.{fits, fits_small, bytes_of, is_null}
use Rattle.away_values.specs.Words.{longest_text}

-- A text is a list of code points without 0 that UTF-8 writes in no more bytes than the longest
-- has.
pub record IsTextValue (t : List ℕ) : Type 0 where
  pub characters : all_scalars t ≡ true
  pub no_zero : list_all (λ c. not (eqb c 0)) t ≡ true
  pub short : sum_by bytes_of t ≤ longest_text

-- a value: NULL, an integer of 64 bits, a truth value, or a text
abbrev pub IsValue : Value → Type 0
IsValue val.Null = Unit {0}
IsValue (val.Int n) = fits n ≡ true
IsValue (val.Bool b) = Unit {0}
IsValue (val.Text t) = IsTextValue t

-- NULL, or a value of the type; an integer has 32 bits
abbrev pub HasType : Value → Ty → Type 0
HasType val.Null t = Unit {0}
HasType (val.Int n) ty.Bigint = fits n ≡ true
HasType (val.Int n) ty.Integer = fits_small n ≡ true
HasType (val.Bool b) ty.Boolean = Unit {0}
HasType (val.Text t) ty.Text = IsTextValue t
HasType _ _ = ⊥

-- a value of the type that is there
pub record IsThere (t : Ty) (v : Value) : Type 0 where
  pub of_type : HasType v t
  pub some : is_null v ≡ false
