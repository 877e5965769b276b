-- What a field of a file writes for a type. The spellings of bigint and boolean are those of
-- PostgreSQL's manual, those that COPY writes among them; `\N` for NULL is COPY's text format,
-- taken over into CSV.
use Rattle.std.specs.Prelude.{
  ℕ,
  Bool,
  true,
  false,
  ◌&&◌,
  ◌||◌,
  not,
  nat_le,
  if◌then◌else◌,
  List,
  length,
  Option,
  Some,
  None,
  option_map,
  codes,
  bytes_eq,
  chars,
  eqb,
}
use Rattle.std.specs.List.{list_all}
use Rattle.std.specs.Option.{option_and_then}
use Rattle.std.specs.Str.{is_utf8}
use Rattle.away_values.specs.declared.values.Value.{Value}
use Rattle.away_values.specs.declared.values.Value.TheVariants as val
use Rattle.away_values.specs.declared.types.Ty.{Ty}
use Rattle.away_values.specs.declared.types.Ty.TheVariants as ty
use Rattle.away_values.specs.BigintSpellings.{bigint_of}
use Rattle.away_values.specs.Operators.{fits_small}

-- `\N`
abbrev pub null_mark : List ℕ
null_mark = codes "\\N"

abbrev pub is_null_mark : List ℕ → Bool
is_null_mark field = bytes_eq field null_mark

-- the bigint that a field writes, where it has 32 bits
abbrev pub integer_of : List ℕ → Option Value
integer_of field = option_and_then (λ n. if fits_small n then Some (val.Int n) else None) (bigint_of field)

-- `t`, `true`, `f` or `false`, in small letters
abbrev pub truth_of : List ℕ → Option Bool
truth_of field =
    if bytes_eq field (codes "t") || bytes_eq field (codes "true") then Some true
    else (if bytes_eq field (codes "f") || bytes_eq field (codes "false") then Some false else None)

-- at most 1,048,576 bytes of UTF-8, none of them 0
abbrev pub is_text : List ℕ → Bool
is_text field = is_utf8 field && nat_le (length field) 1048576 && list_all (λ b. not (eqb b 0)) field

-- the code points of such a field
abbrev pub text_of : List ℕ → Option (List ℕ)
text_of field = if is_text field then Some (chars field) else None

-- a value of the type that is there
unfoldable pub there_of : Ty → List ℕ → Option Value
there_of ty.Bigint field = option_map val.Int (bigint_of field)
there_of ty.Integer field = integer_of field
there_of ty.Boolean field = option_map val.Bool (truth_of field)
there_of ty.Text field = option_map val.Text (text_of field)

-- the value that a field writes: NULL for `\N`, whatever the type
unfoldable pub value_of : Ty → List ℕ → Option Value
value_of t field = if is_null_mark field then Some val.Null else there_of t field
