-- How JSON spells numbers, lists and classes. What has another shape is None.
use Rattle.std.specs.Prelude.{
  ℕ,
  ◌^◌,
  nat_lt,
  if◌then◌else◌,
  List,
  [],
  ◌∷◌,
  bytes_eq,
  codes,
  Option,
  Some,
  None,
  option_and_then,
}
use Rattle.serde_json.specs.Data.{Data, Items, no_items, item}
use Rattle.serde_json.specs.Find.{as_array, as_number, as_str, as_u64}
use Rattle.away_values.specs.Results.{class}
use Rattle.away_values.specs.declared.types.Ty.TheVariants as ty
use Rattle.call_forms.specs.Writable.{is_code}
use Rattle.cert_json.specs.Forms.{Class, Ty}

infixl 10 ◌>>=◌
abbrev pub ◌>>=◌ : {A B : Type 0} → Option A → (A → Option B) → Option B
None >>= f = None
(Some x) >>= f = f x

-- ---- numbers

-- at most 4294967295
abbrev pub small : ℕ → Option ℕ
small n = if nat_lt n (2 ^ 32) then Some n else None

-- an integer without a sign, a point or an exponent, that is small
unfoldable pub number_in : Data → Option ℕ
number_in d = option_and_then as_u64 (as_number d) >>= small

-- ---- lists

abbrev pub listed : Items → List Data
listed no_items = []
listed (item d ds) = d ∷ listed ds

unfoldable pub list_in : Data → Option (List Data)
list_in d = as_array d >>= λ ds. Some (listed ds)

-- what each element spells, where each spells something
unfoldable pub each : {A : Type 0} → (Data → Option A) → List Data → Option (List A)
each f [] = Some []
each f (d ∷ ds) = do
  x ← f d
  xs ← each f ds
  Some (x ∷ xs)

-- a list of any length
unfoldable pub many : {A : Type 0} → (Data → Option A) → Data → Option (List A)
many f d = list_in d >>= each f

abbrev pub two : List Data → Option (Data × Data)
two (a ∷ b ∷ []) = Some (a, b)
two _ = None

-- lists of two, three and four items
unfoldable pub two_in : Data → Option (Data × Data)
two_in d = list_in d >>= two

abbrev pub three : List Data → Option (Data × Data × Data)
three (a ∷ b ∷ c ∷ []) = Some (a, b, c)
three _ = None

unfoldable pub three_in : Data → Option (Data × Data × Data)
three_in d = list_in d >>= three

abbrev pub four : List Data → Option (Data × Data × Data × Data)
four (a ∷ b ∷ c ∷ d ∷ []) = Some (a, b, c, d)
four _ = None

unfoldable pub four_in : Data → Option (Data × Data × Data × Data)
four_in d = list_in d >>= four

-- two numbers in a list
unfoldable pub pair_in : Data → Option (ℕ × ℕ)
pair_in d = do
  p ← two_in d
  a ← number_in p.0
  b ← number_in p.1
  Some (a, b)

-- ---- words

-- a class is five digits or upper-case letters
unfoldable pub class_in : Data → Option Class
class_in d = as_str d >>= λ t. if is_code t then Some (class t) else None

abbrev pub type_named : List ℕ → Option Ty
type_named t =
    if bytes_eq t (codes "bigint") then Some ty.Bigint
    else (
    if bytes_eq t (codes "boolean") then Some ty.Boolean
    else (
    if bytes_eq t (codes "text") then Some ty.Text
    else (if bytes_eq t (codes "integer") then Some ty.Integer else None)))

unfoldable pub type_in : Data → Option Ty
type_in d = as_str d >>= type_named
