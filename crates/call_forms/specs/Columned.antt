-- The relation between a normal form and the columns of its tail form.
use Rattle.std.specs.Prelude.{◌≡◌, ℕ, List, length, slice_get, Option, Some, None}
use Rattle.away_types.specs.declared.slots.Slot.{Slot}
use Rattle.away_values.specs.declared.types.Ty.{Ty}
use Rattle.block_forms.specs.declared.forms.Ssa.{Ssa}
use Rattle.block_forms.specs.Places.{EachPair, Distinct}
use Rattle.call_forms.specs.Called.{itself}
use Rattle.call_forms.specs.Forms.{AnfBlock, Anf, Tail}

abbrev pub type_of_slot : Option Slot → Option Ty
type_of_slot None = None
type_of_slot (Some s) = Some s.ty

abbrev pub type_at : List Slot → Option ℕ → Option Ty
type_at slots None = None
type_at slots (Some slot) = type_of_slot (slice_get slots slot)

-- the type of a name's slot
abbrev pub type_of_name : List Slot → List ℕ → ℕ → Option Ty
type_of_name slots names n = type_at slots (slice_get names n)

-- the column has this type
abbrev pub HasType : Option Ty → Option Ty → Type 0
HasType None column = ⊥
HasType (Some t) column = column ≡ Some t

-- One place for each parameter. The places are distinct, and each is a column of the type of the
-- parameter's slot.
pub record PlacesOf (slots : List Slot) (names : List ℕ) (columns : List Ty) (params places : List ℕ) : Type 0 where
  pub as_many : length places ≡ length params
  pub distinct : Distinct itself places
  pub typed : EachPair (λ i p c. HasType (type_of_name slots names p) (slice_get columns c)) params places

abbrev pub PlacesAt : List Slot → List ℕ → List Ty → Option AnfBlock → List ℕ → Type 0
PlacesAt slots names columns None places = ⊥
PlacesAt slots names columns (Some x) places = PlacesOf slots names columns x.params places

-- the places of each label, over a function's slots
pub record Columned (slots : List Slot) (ssa : Ssa) (anf : Anf) (tail : Tail) : Type 0 where
  pub as_many : length tail.places ≡ length tail.labels
  pub each : EachPair (λ i b places. PlacesAt slots ssa.names tail.columns (slice_get anf.blocks b) places) tail.labels tail.places
