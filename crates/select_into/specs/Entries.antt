-- The expressions of a SELECT INTO: with STRICT whether there is no row and whether there are two
-- or more, then for each target the value of the first row at its place, under a cast to the
-- target's type where that is the other type of numbers.
use Rattle.std.specs.Prelude.{
  ℕ,
  Bool,
  true,
  false,
  List,
  [],
  ◌∷◌,
  ◌++◌,
  map,
  length,
  get_or,
  slice_get,
  is_some,
  if◌then◌else◌,
  Option,
  Some,
  None,
}
use Rattle.away_values.specs.declared.types.Ty.{Ty}
use Rattle.away_values.specs.declared.types.Ty.TheVariants as ty
use Rattle.away_trees.specs.declared.queries.Expr.{Expr}
use Rattle.away_trees.specs.declared.queries.Expr.TheViews.{out-Item, out-Select}
use Rattle.away_trees.specs.declared.queries.Item.{Item}
use Rattle.away_trees.specs.declared.queries.Select.{Select}
use Rattle.sql_meaning.specs.Template.{below}
use Rattle.select_into.specs.Wrapped.{no_row, more_rows, pick_as, picked}

-- a name with its slot, which it has once names are resolved
abbrev pub Target : Type 0
Target = List ℕ × Option ℕ

-- how many tests there are
abbrev pub checks : Bool → ℕ
checks true = 2
checks false = 0

abbrev pub check_entries : Bool → Select → List Expr
check_entries true q = no_row q ∷ more_rows q ∷ []
check_entries false q = []

-- a target's type, by those of the slots; what has no slot is never set, and has any
abbrev pub type_of : List Ty → Option ℕ → Ty
type_of types None = ty.Bigint
type_of types (Some slot) = get_or types slot ty.Bigint

abbrev pub target_types : List Ty → List Target → List Ty
target_types types targets = map (λ (t : Target). type_of types t.1) targets

-- Whether there is an item, and it is to be converted: an alias, which means nothing once names are
-- resolved, is its mark.
abbrev pub is_converted : Option Item → Bool
is_converted None = false
is_converted (Some i) = is_some (out-Item i).alias

-- the cast at a place: to the target's type, where the item is to be converted
abbrev pub cast_at : List Ty → List Item → ℕ → Option Ty
cast_at types items place =
    if is_converted (slice_get items place) then slice_get types place else None

abbrev pub pick_entry : List Ty → Select → ℕ → Expr
pick_entry types q place =
    pick_as (cast_at types (out-Select q).list place) (picked types q) place

-- the picks for targets of these types
abbrev pub pick_entries : List Ty → Select → List Expr
pick_entries types q = map (pick_entry types q) (below (length types))

-- the select without its marks
abbrev pub unmarked : Select → Select
unmarked q = picked [] q

abbrev pub into_entries : List Ty → Bool → List Target → Select → List Expr
into_entries types strict targets q =
    check_entries strict (unmarked q) ++ pick_entries (target_types types targets) q
