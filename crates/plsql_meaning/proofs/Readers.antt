-- The value of an expression is by the slots that it reads, and so are the rows of a select.
use Rattle.std.proofs.Common.{◌≡◌, refl, ap, sym, ◌∙◌, ℕ, zero, suc, ◌<◌, Bool, true, false, not, ◌==◌, nat_lt, if◌then◌else◌, List, [], ◌∷◌, ◌++◌, length, filter, filter_map, slice_index_or, arith}
use Rattle.std.specs.List.{list_all}
use Rattle.std.proofs.lemmas.Bool.{and_parts, false≢true}
use Rattle.away_values.specs.declared.types.Ty.{Ty}
use Rattle.away_values.specs.declared.values.Value.{Value}
use Rattle.away_trees.specs.declared.queries.Select.{Select}
use Rattle.away_trees.specs.Algebra.{select_of}
use Rattle.away_trees.proofs.Equations as eq
use Rattle.sql_meaning.specs.Context.{Rows, at}
use Rattle.sql_meaning.specs.OneReturn.{body}
use Rattle.sql_meaning.specs.Reads.{Read, Reads, Slot, Param, Table, Outer, allows, fits, first_occurrences, reading, reads, slot_of, slots_of}
use Rattle.sql_meaning.specs.Substitution.{SeesAlike}
use Rattle.sql_meaning.specs.Trees.{one}
use Rattle.sql_meaning.proofs.Reading.{select_same}
use Rattle.sql_meaning.proofs.Substitution.{only_slots_matter}
use Rattle.plsql_meaning.specs.Functions.{over}
use Rattle.plsql_meaning.specs.Sight.{AreReaders, of_expressions, query_of, Sight}

abbrev Each : (ℕ → Type 0) → List ℕ → Type 0
Each P [] = Unit {0}
Each P (x ∷ xs) = P x × Each P xs

all_of : (P : ℕ → Type 0) (xs : List ℕ) → Each P xs → (k d : ℕ) → k < length xs → P (slice_index_or xs k d)
all_of P [] h k d lt = absurd (omega (arith, lt))
all_of P (x ∷ xs) h zero d lt = h.0
all_of P (x ∷ xs) h (suc k) d lt = all_of P xs h.1 k d (omega (arith, lt))

each_filter : (P : ℕ → Type 0) (test : ℕ → Bool) (xs : List ℕ) → Each P xs → Each P (filter test xs)
each_filter P test [] h = tt
each_filter P test (x ∷ xs) h = by (test x) (each_filter P test xs h.1)
  where
    by : (b : Bool) → Each P (filter test xs) → Each P (if b then x ∷ filter test xs else filter test xs)
    by true rest = (h.0, rest)
    by false rest = rest

each_first : (P : ℕ → Type 0) (xs : List ℕ) → Each P xs → Each P (first_occurrences xs)
each_first P [] h = tt
each_first P (x ∷ xs) h = (h.0, each_filter P (λ y. not (y == x)) (first_occurrences xs) (each_first P xs h.1))

each_slot : (P : ℕ → Type 0) (sight : Sight) (tables : ℕ) → ((i : ℕ) → sight i ≡ true → P i) → (rs : List Read) → list_all (allows sight 0 tables) rs ≡ true → Each P (filter_map slot_of rs)
each_slot P sight tables go [] h = tt
each_slot P sight tables go (Slot i ∷ rs) h = let p = and_parts (sight i) (list_all (allows sight 0 tables) rs) h in (go i p.0, each_slot P sight tables go rs p.1)
each_slot P sight tables go (Param i ∷ rs) h = each_slot P sight tables go rs (and_parts (nat_lt i 0) (list_all (allows sight 0 tables) rs) h).1
each_slot P sight tables go (Table i ∷ rs) h = each_slot P sight tables go rs (and_parts (nat_lt i tables) (list_all (allows sight 0 tables) rs) h).1
each_slot P sight tables go (Outer c ∷ rs) h = absurd (false≢true h)

sees_alike : (T : List Rows) (env other : List Value) → SeesAlike 0 (length T) (body T other) (body T env)
sees_alike T env other = record { params_are = λ i h. refl; tables_are = λ k h. refl; no_group = refl; no_rows = refl }

append_none : (rs : List Read) → rs ++ [] ≡ rs
append_none [] = refl
append_none (r ∷ rs) = ap (λ rest. r ∷ rest) (append_none rs)

-- the subquery reads what its select reads
pub query_reads_are : (s : Select) → reads (query_of s) ≡ select_of reading s 0
query_reads_are s =
    ap (λ (u : Reads). u 0) (eq.of_scalar reading (one s)) ∙ ap (λ (u : Reads). u 0) (eq.of_query reading (s ∷ [])) ∙ append_none (select_of reading s 0)

-- a select that so fits reads nothing else
pub select_fits : (slots : ℕ → Bool) (tables : ℕ) (s : Select) → fits slots 0 tables (query_of s) ≡ true → list_all (allows slots 0 tables) (select_of reading s 0) ≡ true
select_fits slots tables s h = ap (list_all (allows slots 0 tables)) (sym (query_reads_are s)) ∙ h

pub expressions_are_readers : (T : List Rows) (slots : List (Ty × Bool)) → AreReaders (over T slots) (of_expressions (length T))
expressions_are_readers T slots = record {
  value = λ sight e h env other a.
      let same : ℕ → Type 0 = λ i. at env i ≡ at other i in
      only_slots_matter sight 0 (length T) (body T other) (body T env) (sees_alike T env other) e h
      (all_of same (slots_of e) (each_first same (filter_map slot_of (reads e)) (each_slot same sight (length T) a.values (reads e) h)));
  rows = λ sight s h env other a.
      select_same (record { env = other; args = []; outer = []; tables = T }) (record { env = env; args = []; outer = []; tables = T }) sight 0 (length T) a.values (λ i l. refl) (λ k l. refl) s (select_fits sight (length T) s h) [] [] (record { size = refl; alone = λ z. refl });
}
