-- What statements ask of slots.
use Rattle.std.specs.Prelude.{Bool, List, map}
use Rattle.away_values.specs.declared.types.Ty.{Ty}
use Rattle.away_types.specs.declared.slots.Slot.{Slot}

-- each slot's type, and whether it is NOT NULL
abbrev pub typed_slots : List Slot → List (Ty × Bool)
typed_slots = map (λ (x : Slot). (x.ty, x.not_null))
