-- The slots that an expression reads are among its slots.
use Rattle.std.proofs.Common.{◌≡◌, refl, ap, sym, ◌∙◌, ℕ, suc, Bool, true, false, not, ◌||◌, ◌==◌, if◌then◌else◌, List, [], ◌∷◌, ◌++◌, filter, Some}
use Rattle.std.proofs.lemmas.Bool.{eqb-true, eq-eqb}
use Rattle.std.proofs.lemmas.List.{append_assoc}
use Rattle.std.specs.Prelude.{slice_get}
use Rattle.std.specs.List.{list_all, list_any, filter_map}
use Rattle.away_trees.specs.declared.queries.Expr.{Expr}
use Rattle.sql_meaning.specs.Reads.{Read, Slot, Param, Table, Outer, reads, slot_of, first_occurrences, slots_of}
use Rattle.sql_meaning.proofs.Uses.{and_first, and_second, both_true}
use Rattle.cte_names.proofs.Standing.{Allowed, one_of_these}

-- whether a number is in a list
abbrev pub is_in : List ℕ → ℕ → Bool
is_in xs i = list_any (λ x. x == i) xs

or_true : (a b : Bool) → b ≡ true → (a || b) ≡ true
or_true true b h = refl
or_true false b h = h

-- the number stands at a place
pub record Stands (xs : List ℕ) (i : ℕ) : Type 0 where
  pub place : ℕ
  pub there : slice_get xs place ≡ Some i

pub stands : (xs : List ℕ) (i : ℕ) → is_in xs i ≡ true → Stands xs i
stands [] i h = absurd cc
stands (x ∷ xs) i h = by (stands xs i) (x == i) refl h
  where
    by : (is_in xs i ≡ true → Stands xs i) → (b : Bool) → (x == i) ≡ b → (b || is_in xs i) ≡ true → Stands (x ∷ xs) i
    by go true e h = record { place = 0; there = ap (λ k. Some k) (eqb-true x i e) }
    by go false e h = let r = go h in record { place = suc r.place; there = r.there }

in_middle : (xs : List ℕ) (y : ℕ) (ys : List ℕ) → is_in (xs ++ y ∷ ys) y ≡ true
in_middle [] y ys = ap (λ b. b || is_in ys y) (eq-eqb y y refl)
in_middle (x ∷ xs) y ys = or_true (x == y) _ (in_middle xs y ys)

all_behind : (xs ys : List ℕ) → list_all (is_in (xs ++ ys)) ys ≡ true
all_behind xs [] = refl
all_behind xs (y ∷ ys) =
    both_true (is_in (xs ++ y ∷ ys) y) (list_all (is_in (xs ++ y ∷ ys)) ys) (in_middle xs y ys) (ap (λ zs. list_all (is_in zs) ys) (sym (append_assoc xs (y ∷ []) ys)) ∙ all_behind (xs ++ y ∷ []) ys)

-- what holds of a number and of all others in a list
module _ (p : ℕ → Bool) where
  with_this : (x : ℕ) (ys : List ℕ) → p x ≡ true → list_all p (filter (λ y. not (y == x)) ys) ≡ true → list_all p ys ≡ true
  with_this x [] h k = refl
  with_this x (y ∷ ys) h k = by (with_this x ys h) (y == x) refl k
    where
      by : (list_all p (filter (λ y. not (y == x)) ys) ≡ true → list_all p ys ≡ true) → (b : Bool) → (y == x) ≡ b
          → list_all p (if not b then y ∷ filter (λ y. not (y == x)) ys else filter (λ y. not (y == x)) ys) ≡ true → list_all p (y ∷ ys) ≡ true
      by go true e k = both_true (p y) (list_all p ys) (ap p (eqb-true y x e) ∙ h) (go k)
      by go false e k = both_true (p y) (list_all p ys) (and_first (p y) _ k) (go (and_second (p y) _ k))

  all_of_first : (xs : List ℕ) → list_all p (first_occurrences xs) ≡ true → list_all p xs ≡ true
  all_of_first [] h = refl
  all_of_first (x ∷ xs) h =
      let here = and_first (p x) _ h in
      both_true (p x) (list_all p xs) here (all_of_first xs (with_this x (first_occurrences xs) here (and_second (p x) _ h)))

  of_slots : (rs : List Read) → list_all p (filter_map slot_of rs) ≡ true → list_all (one_of_these p) rs ≡ true
  of_slots [] h = refl
  of_slots (Slot i ∷ rs) h = both_true (p i) (list_all (one_of_these p) rs) (and_first (p i) _ h) (of_slots rs (and_second (p i) _ h))
  of_slots (Param i ∷ rs) h = of_slots rs h
  of_slots (Table i ∷ rs) h = of_slots rs h
  of_slots (Outer c ∷ rs) h = of_slots rs h

pub reads_own : (e : Expr) → Allowed (is_in (slots_of e)) (reads e)
reads_own e = of_slots (is_in (slots_of e)) (reads e) (all_of_first (is_in (slots_of e)) (filter_map slot_of (reads e)) (all_behind [] (slots_of e)))
