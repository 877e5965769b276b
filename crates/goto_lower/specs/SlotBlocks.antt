-- Setting a slot: where it is NOT NULL a test follows.
use Rattle.std.specs.Prelude.{ℕ, ◌+◌, Bool, true, false, List, [], ◌∷◌, Option, Some, None}
use Rattle.away_values.specs.declared.types.Ty.{Ty}
use Rattle.away_values.specs.declared.types.Ty.TheVariants as ty
use Rattle.away_types.specs.declared.slots.Slot.{Slot}
use Rattle.plsql_meaning.specs.Outcomes.{null_not_allowed}
use Rattle.block_forms.specs.declared.places.Numbers.{Numbers}
use Rattle.block_forms.specs.declared.forms.Term.{Term}
use Rattle.block_forms.specs.declared.forms.Block.{Block}
use Rattle.block_forms.specs.Patterns.{is_null, sets, branches, fails}

abbrev pub set_many : Bool → ℕ
set_many false = 1
set_many true = 3

abbrev pub slot_many : Option Slot → ℕ
slot_many None = 1
slot_many (Some s) = set_many s.not_null

module _ (n : Numbers) where
  abbrev pub set_blocks : Bool → Ty → ℕ → Term → ℕ → ℕ → List Block
  set_blocks false t slot e next start = sets slot e next ∷ []
  set_blocks true t slot e next start =
      sets slot e (start + 1)
      ∷ branches false (is_null n.fixed t slot) (start + 2) next
      ∷ fails null_not_allowed
      ∷ []

  abbrev pub slot_blocks : Option Slot → ℕ → Term → ℕ → ℕ → List Block
  slot_blocks None slot e next start = set_blocks false ty.Bigint slot e next start
  slot_blocks (Some s) slot e next start = set_blocks s.not_null s.ty slot e next start
