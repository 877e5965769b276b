-- Each slot that an expression reads is one of its slots.
use Rattle.std.proofs.Common.{◌≡◌, refl, ap, sym, ◌∙◌, ℕ, suc, Bool, true, false, not, ◌||◌, ◌==◌, if◌then◌else◌, List, [], ◌∷◌, filter, Some}
use Rattle.std.proofs.lemmas.Bool.{eqb-true, eq-eqb}
use Rattle.std.specs.Prelude.{slice_get}
use Rattle.std.specs.List.{list_all, list_any, filter_map}
use Rattle.away_trees.specs.declared.queries.Expr.{Expr}
use Rattle.sql_meaning.specs.Reads.{Read, Slot, Param, Table, Outer, reads, slot_of, first_occurrences, slots_of}
use Rattle.sql_meaning.proofs.Uses.{both_true}

-- whether a number is in a list
abbrev pub is_in : List ℕ → ℕ → Bool
is_in xs i = list_any (λ x. x == i) xs

or_true : (a b : Bool) → b ≡ true → (a || b) ≡ true
or_true true b h = refl
or_true false b h = h

or_else : (a b : Bool) → (a || b) ≡ true → a ≡ false → b ≡ true
or_else true b h k = cc
or_else false b h k = h

false_true : false ≡ true → ⊥
false_true h = cc

other_way : (x i : ℕ) → (x == i) ≡ false → (i == x) ≡ false
other_way x i p = by (i == x) refl
  where
    by : (e : Bool) → (i == x) ≡ e → (i == x) ≡ false
    by false q = q
    by true q = absurd (false_true (sym p ∙ eq-eqb x i (sym (eqb-true i x q))))

-- a test that holds of a number of a list keeps it
kept : (test : ℕ → Bool) (i : ℕ) (xs : List ℕ) → test i ≡ true → is_in xs i ≡ true → is_in (filter test xs) i ≡ true
kept test i [] t h = h
kept test i (x ∷ xs) t h = by (kept test i xs t) (x == i) refl (test x) refl
  where
    by : (is_in xs i ≡ true → is_in (filter test xs) i ≡ true) → (e : Bool) → (x == i) ≡ e → (k : Bool) → test x ≡ k → is_in (filter test (x ∷ xs)) i ≡ true
    by go true p true q = (λ j. is_in (if q j then x ∷ filter test xs else filter test xs) i) ∙ ap (λ b. b || is_in (filter test xs) i) p
    by go true p false q = absurd (false_true (sym q ∙ (ap test (eqb-true x i p) ∙ t)))
    by go false p true q = (λ j. is_in (if q j then x ∷ filter test xs else filter test xs) i) ∙ or_true (x == i) _ (go (or_else (x == i) _ h p))
    by go false p false q = (λ j. is_in (if q j then x ∷ filter test xs else filter test xs) i) ∙ go (or_else (x == i) _ h p)

-- each number of a list is among its first occurrences
first_is_in : (i : ℕ) (xs : List ℕ) → is_in xs i ≡ true → is_in (first_occurrences xs) i ≡ true
first_is_in i [] h = h
first_is_in i (x ∷ xs) h = by (first_is_in i xs) (x == i) refl
  where
    by : (is_in xs i ≡ true → is_in (first_occurrences xs) i ≡ true) → (e : Bool) → (x == i) ≡ e → is_in (first_occurrences (x ∷ xs)) i ≡ true
    by go true p = ap (λ b. b || is_in (filter (λ y. not (y == x)) (first_occurrences xs)) i) p
    by go false p =
        let apart : not (i == x) ≡ true = ap not (other_way x i p) in
        or_true (x == i) _ (kept (λ y. not (y == x)) i (first_occurrences xs) apart (go (or_else (x == i) _ h p)))

-- of what is no slot nothing is said
abbrev pub reads_slots : (ℕ → Bool) → Read → Bool
reads_slots wanted (Slot i) = wanted i
reads_slots wanted _ = true

within : (wanted : ℕ → Bool) (rs : List Read) → ((i : ℕ) → is_in (filter_map slot_of rs) i ≡ true → wanted i ≡ true) → list_all (reads_slots wanted) rs ≡ true
within wanted [] go = refl
within wanted (Slot i ∷ rs) go =
    both_true (wanted i) (list_all (reads_slots wanted) rs) (go i (ap (λ b. b || is_in (filter_map slot_of rs) i) (eq-eqb i i refl)))
    (within wanted rs (λ j m. go j (or_true (i == j) _ m)))
within wanted (Param i ∷ rs) go = within wanted rs go
within wanted (Table k ∷ rs) go = within wanted rs go
within wanted (Outer c ∷ rs) go = within wanted rs go

pub reads_its_slots : (e : Expr) → list_all (reads_slots (is_in (slots_of e))) (reads e) ≡ true
reads_its_slots e = within (is_in (slots_of e)) (reads e) (λ i m. first_is_in i (filter_map slot_of (reads e)) m)

-- what is in a list has a place there
pub record HasPlace (xs : List ℕ) (i : ℕ) : Type 0 where
  pub place : ℕ
  pub there : slice_get xs place ≡ Some i

pub has_place : (xs : List ℕ) (i : ℕ) → is_in xs i ≡ true → HasPlace xs i
has_place [] i h = absurd (false_true h)
has_place (x ∷ xs) i h = by (λ h. has_place xs i h) (x == i) refl
  where
    by : (is_in xs i ≡ true → HasPlace xs i) → (b : Bool) → (x == i) ≡ b → HasPlace (x ∷ xs) i
    by rest true e = record { place = 0; there = ap (λ k. Some k) (eqb-true x i e) }
    by rest false e = let more = rest (or_else (x == i) (is_in xs i) h e) in record { place = suc more.place; there = more.there }
