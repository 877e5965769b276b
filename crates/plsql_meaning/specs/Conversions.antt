-- The values of SELECT INTO, converted where the checked tree says so: an item's alias, which means
-- nothing once names are resolved, marks it as one of the other type of numbers than its target's.
use Rattle.std.specs.Prelude.{
  ℕ,
  List,
  [],
  ◌∷◌,
  drop,
  slice_get,
  is_some,
  if◌then◌else◌,
  Option,
  Some,
  None,
  Ok,
}
use Rattle.away_values.specs.declared.types.Ty.{Ty}
use Rattle.away_values.specs.declared.values.Value.{Value}
use Rattle.away_values.specs.declared.values.Value.TheVariants as val
use Rattle.away_values.specs.Operators.{cast}
use Rattle.away_values.specs.Results.{Or, and_then, mapped}
use Rattle.away_trees.specs.declared.queries.Expr.TheViews.{out-Item}
use Rattle.away_trees.specs.declared.queries.Item.{Item}

abbrev pub Target : Type 0
Target = List ℕ × Option ℕ

-- ---- which values are converted, and to which types

-- the type of a target's slot, by those of the slots
abbrev pub type_at : List Ty → Option ℕ → Option Ty
type_at types None = None
type_at types (Some slot) = slice_get types slot

abbrev pub conversion_by : List Ty → Option ℕ → Option Item → Option Ty
conversion_by types slot None = None
conversion_by types slot (Some i) =
    if is_some (out-Item i).alias then type_at types slot else None

abbrev pub conversion : List Ty → Target → Option Item → Option Ty
conversion types t item = conversion_by types t.1 item

-- one for each target, by the item at its place
abbrev pub conversions : List Ty → List Target → List Item → List (Option Ty)
conversions types [] items = []
conversions types (t ∷ ts) items =
    conversion types t (slice_get items 0) ∷ conversions types ts (drop 1 items)

-- ---- what they give

-- a row is NULL behind its end
abbrev pub head_or_null : List Value → Value
head_or_null [] = val.Null
head_or_null (v ∷ vs) = v

abbrev pub rest_of : List Value → List Value
rest_of [] = []
rest_of (v ∷ vs) = vs

abbrev pub converted_value : Option Ty → Value → Or Value
converted_value None v = Ok v
converted_value (Some t) v = cast t v

-- a value for each conversion, from left to right; where the row ends it is that of NULL
abbrev pub converted_row : List (Option Ty) → List Value → Or (List Value)
converted_row [] vs = Ok []
converted_row (c ∷ cs) vs =
    and_then (converted_value c (head_or_null vs))
    (λ v. mapped (λ ws. v ∷ ws) (converted_row cs (rest_of vs)))
