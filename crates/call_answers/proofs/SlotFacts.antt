-- What a list of slots says of the slot at a place.
use Rattle.std.proofs.Common.{◌≡◌, ap, ℕ, zero, suc, ◌<◌, List, [], ◌∷◌, length, get_or, slice_get, Some, arith}
use Rattle.away_types.specs.declared.slots.Slot.{Slot}
use Rattle.away_types.specs.TypedSlots.{typed_slots}
use Rattle.call_meaning.specs.TypedSlots.{no_null, types_in}

pub no_null_is : (slots : List Slot) (i : ℕ) (s : Slot) → i < length slots → ((d : Slot) → s ≡ get_or slots i d) → s.not_null ≡ no_null (typed_slots slots) i
no_null_is [] i s lt e = absurd (omega (arith, lt))
no_null_is (x ∷ xs) zero s lt e = ap (λ (z : Slot). z.not_null) (e s)
no_null_is (x ∷ xs) (suc i) s lt e = no_null_is xs i s (omega (arith, lt)) e

pub type_is : (slots : List Slot) (i : ℕ) (s : Slot) → i < length slots → ((d : Slot) → s ≡ get_or slots i d) → Some s.ty ≡ slice_get (types_in (typed_slots slots)) i
type_is [] i s lt e = absurd (omega (arith, lt))
type_is (x ∷ xs) zero s lt e = ap (λ (z : Slot). Some z.ty) (e s)
type_is (x ∷ xs) (suc i) s lt e = type_is xs i s (omega (arith, lt)) e
