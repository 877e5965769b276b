-- The places of a label.
use Rattle.std.proofs.Common.{◌≡◌, ℕ, zero, suc, List, [], ◌∷◌, get_or, Some, None, refl}
use Rattle.std.specs.Prelude.{slice_get}
use Rattle.std.proofs.lemmas.Option.{same_Some}

pub found_or : (keys : List (List ℕ)) (l : ℕ) (k : List ℕ) → slice_get keys l ≡ Some k → get_or keys l [] ≡ k
found_or [] l k h = absurd (cc)
found_or (x ∷ keys) zero k h = same_Some x k h
found_or (x ∷ keys) (suc l) k h = found_or keys l k h

pub missed_or : (keys : List (List ℕ)) (l : ℕ) → slice_get keys l ≡ None → get_or keys l [] ≡ []
missed_or [] l h = refl
missed_or (x ∷ keys) zero h = absurd (cc)
missed_or (x ∷ keys) (suc l) h = missed_or keys l h

pub ruleset places_rules = (found_or, missed_or)
