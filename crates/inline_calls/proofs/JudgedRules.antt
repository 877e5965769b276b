-- The list of the query that is judged, and types that are left over.
use Rattle.std.proofs.Common.{◌≡◌, refl, ℕ, zero, suc, ◌<◌, false, List, [], ◌∷◌, drop, length, map, arith}
use Rattle.away_values.specs.declared.types.Ty.{Ty}
use Rattle.away_trees.specs.declared.queries.Item.{Item}
use Rattle.sql_meaning.specs.Trees.{null_of}
use Rattle.inline_law.specs.Moved.{item_filled}
use Rattle.inline_calls.specs.Judged.{are_types}
use Rattle.inline_calls.specs.Leaves.{leaf_of, place_of}
use Rattle.inline_calls.specs.Moving.{item_in}
use Rattle.inline_calls.specs.declared.leaves.Moves.TheVariants.{Nulls}

-- NULLs stand in the places of the slots
pub nulls_stand : (t : Ty) (list : List Item) → map (item_in (leaf_of (Nulls t)) (place_of (Nulls t)) 0) list ≡ map (item_filled (λ d i. null_of t)) list
unfolding item_in leaf_of place_of
nulls_stand t list = refl

-- no type is left for the n-th
pub none_left : (ts us : List Ty) (n : ℕ) → n < length ts → length us < 1 → are_types (drop n ts) us ≡ false
none_left [] us n lt less = absurd (let no : ⊥ = omega (arith, lt) in no)
none_left (t ∷ ts) [] zero lt less = refl
none_left (t ∷ ts) (u ∷ us) zero lt less = absurd (let no : ⊥ = omega (arith, less) in no)
none_left (t ∷ ts) us (suc n) lt less = none_left ts us n (omega (arith, lt)) less
