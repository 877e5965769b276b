-- An expression that reads slots in sight alone is a term that reads slots that are visible.
use Rattle.std.proofs.Common.{◌≡◌, ℕ, zero, suc, ◌+◌, ◌<◌, Bool, true, false, not, ◌==◌, ◌||◌, List, [], ◌∷◌, ◌++◌, filter, filter_map, if◌then◌else◌, refl, sym, subst, inl, inr, arith}
use Rattle.std.specs.Prelude.{◌⊎◌}
use Rattle.std.specs.List.{range_with_len}
use Rattle.std.proofs.lemmas.Bool.{false≢true}
use Rattle.std.proofs.lemmas.Bool.Decides.{nat_tests}
use Rattle.away_trees.specs.declared.queries.Expr.{Expr}
use Rattle.sql_meaning.specs.Reads.{Read, Slot, Param, Table, Outer, first_occurrences, reads, slot_of}
use Rattle.type_soundness.specs.Sorts.{Every}
use Rattle.function_facts.specs.InSight.{is_among, IsSeen, ReadsInSight}
use Rattle.block_forms.specs.Patterns.{source_term}
use Rattle.block_forms.specs.Places.{In}
use Rattle.goto_law.proofs.Ways.{Slots, with_slot, Reads}

-- the slots in sight are visible
abbrev pub Sees : Slots → List ℕ → Type 0
Sees V sight = (i : ℕ) → is_among i sight ≡ true → V i

-- ---- slots in a list

pub is_same : (i j : ℕ) → (i == j) ≡ true → i ≡ j
is_same i j e = grind (arith, nat_tests)

among_push : (i n : ℕ) (xs : List ℕ) → is_among i (xs ++ n ∷ []) ≡ true → (is_among i xs ≡ true) ⊎ (n ≡ i)
among_push i n [] h = inr (sym (is_same i n (alone (i == n) h)))
  where
    alone : (b : Bool) → (b || false) ≡ true → b ≡ true
    alone true h = refl
    alone false h = h
among_push i n (x ∷ xs) h = by (i == x) (among_push i n xs) h
  where
    by : (b : Bool) → (is_among i (xs ++ n ∷ []) ≡ true → (is_among i xs ≡ true) ⊎ (n ≡ i)) → (b || is_among i (xs ++ n ∷ [])) ≡ true
        → ((b || is_among i xs) ≡ true) ⊎ (n ≡ i)
    by true rest h = inl refl
    by false rest h = rest h

-- one more is in sight and visible
pub sees_push : (V : Slots) (n : ℕ) (sight : List ℕ) → Sees V sight → Sees (with_slot V n) (sight ++ n ∷ [])
sees_push V n sight h i is = elim (among_push i n sight is) [ inl e ↦ inl (h i e) | inr e ↦ inr e ]

pub among_range : (i a n : ℕ) → is_among i (range_with_len a n) ≡ true → i < a + n
among_range i a zero h = absurd (false≢true h)
among_range i a (suc n) h = by (i == a) (is_same i a) (λ e. let lt = among_range i (a + 1) n e in omega (arith, lt)) h
  where
    by : (b : Bool) → (b ≡ true → i ≡ a) → (is_among i (range_with_len (a + 1) n) ≡ true → i < a + suc n)
        → (b || is_among i (range_with_len (a + 1) n)) ≡ true → i < a + suc n
    by true same rest h = let e = same refl in omega (arith, e)
    by false same rest h = rest h

-- ---- slots of an expression

in_filter : (test : ℕ → Bool) (xs : List ℕ) (i : ℕ) → In (filter test xs) i → In xs i
in_filter test [] i h = h
in_filter test (x ∷ xs) i h = by (test x) h (in_filter test xs i)
  where
    by : (b : Bool) → In (if b then x ∷ filter test xs else filter test xs) i → (In (filter test xs) i → In xs i) → In (x ∷ xs) i
    by true (inl e) rest = inl e
    by true (inr h) rest = inr (rest h)
    by false h rest = inr (rest h)

in_first : (xs : List ℕ) (i : ℕ) → In (first_occurrences xs) i → In xs i
in_first [] i h = h
in_first (x ∷ xs) i (inl e) = inl e
in_first (x ∷ xs) i (inr h) = inr (in_first xs i (in_filter (λ y. not (y == x)) (first_occurrences xs) i h))

in_reads : (sight : List ℕ) (rs : List Read) → Every (IsSeen sight) rs → (i : ℕ) → In (filter_map slot_of rs) i → is_among i sight ≡ true
in_reads sight [] h i m = absurd m
in_reads sight (Slot j ∷ rs) h i (inl e) = subst (λ j. is_among j sight ≡ true) e h.0
in_reads sight (Slot j ∷ rs) h i (inr m) = in_reads sight rs h.1 i m
in_reads sight (Param j ∷ rs) h i m = in_reads sight rs h.1 i m
in_reads sight (Table j ∷ rs) h i m = in_reads sight rs h.1 i m
in_reads sight (Outer c ∷ rs) h i m = in_reads sight rs h.1 i m

pub source_reads : (V : Slots) (sight : List ℕ) (k : ℕ) (e : Expr) → Sees V sight → ReadsInSight (record { expr = e; sight = sight })
    → Reads V (source_term k e)
source_reads V sight k e sees h i m = sees i (in_reads sight (reads e) h i (in_first (filter_map slot_of (reads e)) i m))
