-- The names of the columns of a select that stands in the FROM of a test or a pick differ, and by them each column is found.
use Rattle.std.proofs.Common.{◌≡◌, refl, ap, ◌∙◌, ℕ, zero, suc, ◌+◌, ◌<◌, ◌≤◌, arith, false, List, [], ◌∷◌, map, Some, codes, decimal}
use Rattle.std.specs.Prelude.{slice_get}
use Rattle.std.proofs.lemmas.Fmt.{decimal_injective}
use Rattle.std.proofs.lemmas.List.{append_cancel_left}
use Rattle.away_trees.specs.Limits.{most_nodes}
use Rattle.away_trees.specs.declared.queries.Col.{Col}
use Rattle.away_trees.specs.declared.queries.Expr.TheVariants as expr
use Rattle.away_names.specs.declared.scope.Seen.{Seen}
use Rattle.away_names.specs.Lookups.{Name, Level, column_qualified, has_double}
use Rattle.away_names.specs.Naming.{plain_names}
use Rattle.sql_meaning.specs.Template.{count_from}
use Rattle.select_into.specs.Wrapped.{value_name, value_names}
use Rattle.qualified_names.specs.Sight.{reference}
use Rattle.qualified_names.proofs.Gives.{Every}
use Rattle.cte_names.proofs.Differences.{Apart, AllApart, no_double, own_place}
use Rattle.cte_names.proofs.OwnColumns.{found_last}
use Rattle.cte_names.proofs.Refined.{is_called}

-- ---- names that differ

apart : (j k : ℕ) → j < k → k < most_nodes → Apart (value_name j) (value_name k)
apart j k lt few e =
    let same : suc k ≡ suc j = decimal_injective (suc k) (suc j) (omega (arith, few)) (omega (arith, lt, few)) (append_cancel_left (codes "away_v") (decimal (suc k)) (decimal (suc j)) e) in
    absurd (omega (arith, lt, same))

later_apart : (j i n : ℕ) → j < i → i + n ≤ most_nodes → Every (Apart (value_name j)) (map value_name (count_from i n))
later_apart j i zero lt few = tt
later_apart j i (suc n) lt few = (apart j i lt (omega (arith, few)), later_apart j (suc i) n (omega (arith, lt)) (omega (arith, few)))

all_apart : (i n : ℕ) → i + n ≤ most_nodes → AllApart (map value_name (count_from i n))
all_apart i zero few = tt
all_apart i (suc n) few = (later_apart i (suc i) n (omega arith) (omega (arith, few)), all_apart (suc i) n (omega (arith, few)))

values_apart : (n : ℕ) → n ≤ most_nodes → AllApart (value_names n)
values_apart n few = all_apart 0 n (omega (arith, few))

pub values_differ : (n : ℕ) → n ≤ most_nodes → has_double (value_names n) ≡ false
values_differ n few = no_double (value_names n) (values_apart n few)

-- ---- each at its place

there_from : (i n k : ℕ) → k < n → slice_get (map value_name (count_from i n)) k ≡ Some (value_name (i + k))
there_from i zero k lt = absurd (omega (arith, lt))
there_from i (suc n) zero lt = let z : i ≡ i + 0 = omega arith in ap (λ j. Some (value_name j)) z
there_from i (suc n) (suc k) lt = there_from (suc i) n k (omega (arith, lt)) ∙ (let z : suc i + k ≡ i + suc k = omega arith in ap (λ j. Some (value_name j)) z)

pub there : (n k : ℕ) → k < n → slice_get (value_names n) k ≡ Some (value_name k)
there n k lt = there_from 0 n k lt ∙ (let z : 0 + k ≡ k = omega arith in ap (λ j. Some (value_name j)) z)

plain_there : (ns : List Name) (k : ℕ) (x : Name) → slice_get ns k ≡ Some x → slice_get (plain_names ns) k ≡ Some (Some x)
plain_there [] k x e = absurd cc
plain_there (n ∷ ns) zero x e = ap (λ o. Some o) e
plain_there (n ∷ ns) (suc k) x e = plain_there ns k x e

-- ---- the item of FROM

abbrev pub alias : Name
alias = codes "away_q"

abbrev pub seen : ℕ → Seen
seen n = record { alias = alias; columns = plain_names (value_names n) }

abbrev pub place_at : ℕ → Col
place_at k = record { level = 0; item = 0; column = k }

pub called_so : (n k : ℕ) (ls : List Level) → k < n → reference ((seen n ∷ []) ∷ ls) (place_at k) ≡ expr.Dotted alias (value_name k)
called_so n k ls lt =
    is_called ((seen n ∷ []) ∷ ls) (place_at k) alias (value_name k)
    (record { level = seen n ∷ []; item = seen n; level_there = refl; item_there = refl; name_there = plain_there (value_names n) k (value_name k) (there n k lt); alias = refl })

pub found_so : (n k : ℕ) (ls : List Level) → n ≤ most_nodes → k < n → column_qualified alias (value_name k) ((seen n ∷ []) ∷ ls) ≡ Some (record { column = place_at k; many = false })
found_so n k ls few lt = found_last [] ls (seen n) (value_name k) k tt (own_place (value_names n) k (value_name k) (values_apart n few) (there n k lt))
