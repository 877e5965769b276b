-- The entries of a SELECT INTO: how many there are, where they stand in the table, and that they read the slots of its select.
use Rattle.std.proofs.Common.{◌≡◌, refl, ap, ◌∙◌, ℕ, zero, suc, ◌+◌, Bool, true, false, List, [], ◌∷◌, length, filter_map, arith, length-append}
use Rattle.std.proofs.lemmas.List.{append-nil, length-map}
use Rattle.away_values.specs.declared.types.Ty.{Ty}
use Rattle.away_trees.specs.declared.queries.Select.{Select}
use Rattle.away_trees.specs.Algebra.{select_of}
use Rattle.away_trees.proofs.Equations as eq
use Rattle.sql_meaning.specs.Reads.{Read, Reads, reading, reads, slot_of, slots_of, first_occurrences}
use Rattle.sql_meaning.specs.Template.{count_from, below}
use Rattle.sql_meaning.specs.Trees.{one}
use Rattle.plsql_meaning.specs.Sight.{query_of}
use Rattle.select_into.specs.Entries.{Target, checks, type_of, check_entries, target_types, pick_entry, pick_entries, into_entries, unmarked}
use Rattle.select_into.specs.Laws.{AskTheSelect, HaveItsSlots, KeepsRows}
use Rattle.select_into.specs.Wrapped.{select_slots}

-- what is known of them
pub record SelectLaws : Type 0 where
  pub ask : AskTheSelect
  pub typed : KeepsRows
  pub slots : HaveItsSlots

-- ---- how many there are

counted : (m n : ℕ) → length (count_from m n) ≡ n
counted m zero = refl
counted m (suc n) = ap suc (counted (suc m) n)

checks_long : (strict : Bool) (q : Select) → length (check_entries strict q) ≡ checks strict
checks_long true q = refl
checks_long false q = refl

pub types_long : (types : List Ty) (ts : List Target) → length (target_types types ts) ≡ length ts
types_long types ts = length-map ts (λ (t : Target). type_of types t.1)

pub entries_long : (types : List Ty) (strict : Bool) (ts : List Target) (q : Select) → length (into_entries types strict ts q)
    ≡ checks strict + length ts
entries_long types strict ts q =
    let ty = target_types types ts in
    omega (arith, length-append (check_entries strict (unmarked q)) (pick_entries ty q), checks_long strict (unmarked q), length-map (below (length ty)) (pick_entry ty q), counted 0 (length ty), types_long types ts)

-- ---- what they read

pub query_reads : (q : Select) → reads (query_of q) ≡ select_of reading q 0
query_reads q =
    ap (λ (u : Reads). u 0) (eq.of_scalar reading (one q)) ∙ ap (λ (u : Reads). u 0) (eq.of_query reading (q ∷ []))
    ∙ append-nil (select_of reading q 0)

pub query_slots : (q : Select) → slots_of (query_of q) ≡ select_slots q
query_slots q = ap (λ (rs : List Read). first_occurrences (filter_map slot_of rs)) (query_reads q)
