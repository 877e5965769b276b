-- A source expression has its value wherever the slots that it reads hold what they hold.
use Rattle.std.proofs.Common.{◌≡◌, refl, sym, ap, ◌∙◌, subst, ℕ, zero, suc, ◌<◌, Bool, true, false, not, ◌==◌, nat_lt, if◌then◌else◌, List, [], ◌∷◌, ◌++◌, map, length, filter, filter_map, slice_index_or, arith, inl, inr}
use Rattle.std.specs.List.{list_all}
use Rattle.std.proofs.lemmas.Bool.{and_parts, cases_Bool, false≢true, ltb-true}
use Rattle.std.proofs.lemmas.Bool.Decides.{nat_tests}
use Rattle.std.proofs.lemmas.List.{get_or_append_left}
use Rattle.away_values.specs.declared.values.Value.{Value}
use Rattle.away_values.specs.declared.values.Value.TheVariants as val
use Rattle.away_trees.specs.declared.queries.Expr.{Expr}
use Rattle.sql_meaning.specs.Context.{Rows, at}
use Rattle.sql_meaning.specs.Meaning.{value}
use Rattle.sql_meaning.specs.OneReturn.{body}
use Rattle.sql_meaning.specs.Reads.{Read, Slot, Param, Table, Outer, allows, first_occurrences, reads, slot_of, slots_of}
use Rattle.sql_meaning.proofs.Substitution.{only_slots_matter}
use Rattle.block_forms.specs.Expressions.{put_at, holding}
use Rattle.block_forms.specs.OwnSlots.{ReadsBelow}
use Rattle.goto_law.proofs.Fits.{AllBelow}

-- ---- what slots hold

put_same : (i : ℕ) (v : Value) (vs : List Value) → at (put_at i v vs) i ≡ v
put_same zero v [] = refl
put_same zero v (x ∷ vs) = refl
put_same (suc i) v [] = put_same i v []
put_same (suc i) v (x ∷ vs) = put_same i v vs

put_other : (i j : ℕ) (v : Value) (vs : List Value) → (j ≡ i → ⊥) → at (put_at i v vs) j ≡ at vs j
put_other zero zero v vs ne = absurd (ne refl)
put_other zero (suc j) v [] ne = refl
put_other zero (suc j) v (x ∷ vs) ne = refl
put_other (suc i) zero v [] ne = refl
put_other (suc i) zero v (x ∷ vs) ne = refl
put_other (suc i) (suc j) v [] ne = put_other i j v [] (λ e. ne (ap suc e))
put_other (suc i) (suc j) v (x ∷ vs) ne = put_other i j v vs (λ e. ne (ap suc e))

is_same : (i j : ℕ) → (i == j) ≡ true → i ≡ j
is_same i j e = grind (arith, nat_tests)

is_other : (i j : ℕ) → (i == j) ≡ false → (i ≡ j → ⊥)
is_other i j e h = grind (arith, nat_tests)

held : (read : ℕ → Value) (ss : List ℕ) (k d : ℕ) → k < length ss
    → at (holding ss (map read ss)) (slice_index_or ss k d) ≡ read (slice_index_or ss k d)
held read [] k d lt = absurd (omega (arith, lt))
held read (s ∷ ss) zero d lt = put_same s (read s) (holding ss (map read ss))
held read (s ∷ ss) (suc k) d lt = go (slice_index_or ss k d) (held read ss k d (omega (arith, lt)))
  where
    go : (i : ℕ) → at (holding ss (map read ss)) i ≡ read i → at (put_at s (read s) (holding ss (map read ss))) i ≡ read i
    go i h = elim (cases_Bool (i == s)) [
      | inl e ↦ subst (λ j. at (put_at s (read s) (holding ss (map read ss))) j ≡ read j) (sym (is_same i s e))
          (put_same s (read s) (holding ss (map read ss)))
      | inr e ↦ put_other s i (read s) (holding ss (map read ss)) (is_other i s e) ∙ h
    ]

-- ---- slots that are read are below a number

below_at : (slots : ℕ) (xs : List ℕ) → AllBelow slots xs → (k d : ℕ) → k < length xs → slice_index_or xs k d < slots
below_at slots [] h k d lt = absurd (omega (arith, lt))
below_at slots (x ∷ xs) h zero d lt = h.0
below_at slots (x ∷ xs) h (suc k) d lt = below_at slots xs h.1 k d (omega (arith, lt))

below_filter : (slots : ℕ) (test : ℕ → Bool) (xs : List ℕ) → AllBelow slots xs → AllBelow slots (filter test xs)
below_filter slots test [] h = tt
below_filter slots test (x ∷ xs) h = by (test x) (below_filter slots test xs h.1)
  where
    by : (b : Bool) → AllBelow slots (filter test xs) → AllBelow slots (if b then x ∷ filter test xs else filter test xs)
    by true rest = (h.0, rest)
    by false rest = rest

below_first : (slots : ℕ) (xs : List ℕ) → AllBelow slots xs → AllBelow slots (first_occurrences xs)
below_first slots [] h = tt
below_first slots (x ∷ xs) h = (h.0, below_filter slots (λ y. not (y == x)) (first_occurrences xs) (below_first slots xs h.1))

below_reads : (slots tables : ℕ) (rs : List Read) → list_all (allows (λ i. nat_lt i slots) 0 tables) rs ≡ true
    → AllBelow slots (filter_map slot_of rs)
below_reads slots tables [] h = tt
below_reads slots tables (Slot i ∷ rs) h =
    let p = and_parts (nat_lt i slots) (list_all (allows (λ i. nat_lt i slots) 0 tables) rs) h in
    (ltb-true i slots p.0, below_reads slots tables rs p.1)
below_reads slots tables (Param i ∷ rs) h =
    below_reads slots tables rs (and_parts (nat_lt i 0) (list_all (allows (λ i. nat_lt i slots) 0 tables) rs) h).1
below_reads slots tables (Table i ∷ rs) h =
    below_reads slots tables rs (and_parts (nat_lt i tables) (list_all (allows (λ i. nat_lt i slots) 0 tables) rs) h).1
below_reads slots tables (Outer c ∷ rs) h = absurd (false≢true h)

-- ---- the value

pub source_value : (T : List Rows) (slots : ℕ) (e : Expr) → ReadsBelow slots e → (env hid : List Value) → length env ≡ slots
    → value e (body T (holding (slots_of e) (map (λ i. at (env ++ hid) i) (slots_of e)))) ≡ value e (body T env)
source_value T slots e x env hid wide =
    let read : ℕ → Value = λ i. at (env ++ hid) i in
    only_slots_matter (λ i. nat_lt i slots) 0 x.tables (body T env) (body T (holding (slots_of e) (map read (slots_of e))))
    (record { params_are = λ i h. refl; tables_are = λ k h. refl; no_group = refl; no_rows = refl }) e x.alone
    (λ k d lt.
    let i = slice_index_or (slots_of e) k d in
    let below : i < length env = subst (λ w. i < w) (sym wide)
    (below_at slots (slots_of e) (below_first slots (filter_map slot_of (reads e))
    (below_reads slots x.tables (reads e) x.alone)) k d lt) in
    held read (slots_of e) k d lt ∙ get_or_append_left env hid val.Null i below)
