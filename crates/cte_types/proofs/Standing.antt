-- Elements that stand at numbers in a row, and the types of slots at their numbers.
use Rattle.std.proofs.Common.{◌≡◌, refl, ap, ◌∙◌, subst, ℕ, zero, suc, ◌+◌, ◌<◌, List, [], ◌∷◌, ◌++◌, length, get_or, slice_get, Some, arith}
use Rattle.away_values.specs.declared.types.Ty.{Ty}
use Rattle.away_trees.specs.declared.queries.Expr.{Expr}
use Rattle.away_trees.specs.declared.queries.Expr.TheVariants as expr
use Rattle.away_types.specs.declared.slots.Slot.{Slot}
use Rattle.away_types.specs.FunctionChecks.{slot_types}
use Rattle.call_forms.specs.Columned.{type_of_slot}
use Rattle.call_forms.specs.Templated.{type_or_bigint}

-- ---- in a row

module _ {X : Type 0} (P : ℕ → X → Type 0) where
  -- the elements from a number on
  abbrev pub Row : ℕ → List X → Type 0
  Row k [] = Unit {0}
  Row k (x ∷ xs) = P k x × Row (suc k) xs

  pub row_left : (k : ℕ) (xs ys : List X) → Row k (xs ++ ys) → Row k xs
  row_left k [] ys h = tt
  row_left k (x ∷ xs) ys h = (h.0, row_left (suc k) xs ys h.1)

  pub row_same : (j k : ℕ) (xs : List X) → j ≡ k → Row j xs → Row k xs
  row_same j k xs e h = subst (λ n. Row n xs) e h

  -- what stands behind so many others
  pub row_right : (k n : ℕ) (xs ys : List X) → n ≡ length xs → Row k (xs ++ ys) → Row (k + n) ys
  row_right k n [] ys count h = row_same k (k + n) ys (omega (arith, count)) h
  row_right k n (x ∷ xs) ys count h =
      row_same (suc k + length xs) (k + n) ys (omega (arith, count)) (row_right (suc k) (length xs) xs ys refl h.1)

-- ---- in the table of expressions, which begins with those of the text

abbrev pub Entry : List Expr → ℕ → Expr → Type 0
Entry table k e = get_or table k expr.Null ≡ e

from : (table : List Expr) (k : ℕ) (es fs : List Expr) → ((i : ℕ) → get_or table (k + i) expr.Null ≡ get_or (es ++ fs) i expr.Null) → Row (Entry table) k es
from table k [] fs alike = tt
from table k (e ∷ es) fs alike = (
  ap (λ n. get_or table n expr.Null) (let z : k ≡ k + 0 = omega arith in z) ∙ alike 0,
  from table (suc k) es fs (λ i. ap (λ n. get_or table n expr.Null) (let z : suc k + i ≡ k + suc i = omega arith in z) ∙ alike (suc i)),
)

pub sources_stand : (es fs : List Expr) → Row (Entry (es ++ fs)) 0 es
sources_stand es fs = from (es ++ fs) 0 es fs (λ i. ap (λ n. get_or (es ++ fs) n expr.Null) (let z : 0 + i ≡ i = omega arith in z))

pub get_behind : (xs ys : List Expr) (k : ℕ) → get_or (xs ++ ys) (length xs + k) expr.Null ≡ get_or ys k expr.Null
get_behind [] ys k = ap (λ n. get_or ys n expr.Null) (let e : 0 + k ≡ k = omega arith in e)
get_behind (x ∷ xs) ys k =
    let e : length (x ∷ xs) + k ≡ suc (length xs + k) = omega arith in
    ap (λ n. get_or (x ∷ (xs ++ ys)) n expr.Null) e ∙ get_behind xs ys k

-- ---- in a function's slots

abbrev pub SlotAt : List Slot → ℕ → Slot → Type 0
SlotAt slots k d = slice_get slots k ≡ Some d

slot_from : (slots : List Slot) (k : ℕ) (ds es : List Slot) → ((i : ℕ) → slice_get slots (k + i) ≡ slice_get (ds ++ es) i) → Row (SlotAt slots) k ds
slot_from slots k [] es alike = tt
slot_from slots k (d ∷ ds) es alike = (
  ap (slice_get slots) (let z : k ≡ k + 0 = omega arith in z) ∙ alike 0,
  slot_from slots (suc k) ds es (λ i. ap (slice_get slots) (let z : suc k + i ≡ k + suc i = omega arith in z) ∙ alike (suc i)),
)

pub slots_stand : (ds es : List Slot) → Row (SlotAt (ds ++ es)) 0 ds
slots_stand ds es = slot_from (ds ++ es) 0 ds es (λ i. ap (slice_get (ds ++ es)) (let z : 0 + i ≡ i = omega arith in z))

-- the type of a slot; what is no slot counts as bigint
abbrev pub type_at : List Slot → ℕ → Ty
type_at slots i = type_or_bigint (type_of_slot (slice_get slots i))

pub type_there : (slots : List Slot) (i : ℕ) → i < length slots → slice_get (slot_types slots) i ≡ Some (type_at slots i)
type_there [] i lt = absurd (omega (arith, lt))
type_there (x ∷ xs) zero lt = refl
type_there (x ∷ xs) (suc i) lt = type_there xs i (omega (arith, lt))
