-- The query's own names are kept and differ, as long as their numbers fit a word of the machine.
use Rattle.std.proofs.Common.{◌≡◌, refl, ap, ℕ, zero, suc, ◌+◌, ◌<◌, ◌≤◌, ◌^◌, true, false, List}
use Rattle.std.proofs.Common.{[], ◌∷◌, ◌++◌, map, length, get_or, Some, codes, decimal, arith, eq-eqb}
use Rattle.std.specs.Prelude.{nat_eq, slice_get}
use Rattle.std.proofs.lemmas.Fmt.{decimal_injective}
use Rattle.std.proofs.lemmas.List.{append_cancel_left}
use Rattle.away_names.specs.Lookups.{Name, is_kept}
use Rattle.call_law.proofs.Labels.{element_there}
use Rattle.sql_meaning.specs.Template.{count_from}
use Rattle.qualified_names.proofs.Gives.{Every}
use Rattle.cte_parts.specs.Names.{table_name, step_name, only_name, go_name, label_name, result_name}
use Rattle.cte_parts.specs.Names.{fault_name, alias_name, column_name, value_names, row_names}
use Rattle.cte_names.proofs.Differences.{Apart, AllApart, every_both, every_at}

-- names with another sixth letter after `away_` differ
pub letter_apart : (n m : Name) → nat_eq (get_or m 5 0) (get_or n 5 0) ≡ false → Apart n m
letter_apart n m h e =
    let same : nat_eq (get_or m 5 0) (get_or n 5 0) ≡ true = eq-eqb (get_or m 5 0) (get_or n 5 0) (ap (λ x. get_or x 5 0) e) in
    absurd (cc)

-- ---- numbers

pub aliases_apart : (j k : ℕ) → j < k → k < 2 ^ 64 → alias_name k ≡ alias_name j → ⊥
aliases_apart j k lt fits e =
    let same : k ≡ j = decimal_injective k j fits (omega (arith, lt, fits)) (append_cancel_left (codes "away_k") (decimal k) (decimal j) e) in
    absurd (omega (arith, lt, same))

columns_apart : (j k : ℕ) → j < k → k < 2 ^ 64 → column_name k ≡ column_name j → ⊥
columns_apart j k lt fits e =
    let same : k ≡ j = decimal_injective k j fits (omega (arith, lt, fits)) (append_cancel_left (codes "away_c") (decimal k) (decimal j) e) in
    absurd (omega (arith, lt, same))

-- ---- kept names

pub alias_kept : (k : ℕ) → is_kept (alias_name k) ≡ true
unfolding is_kept
alias_kept k = refl

pub table_kept : is_kept table_name ≡ true
unfolding is_kept
table_kept = refl

pub step_kept : is_kept step_name ≡ true
unfolding is_kept
step_kept = refl

pub only_kept : is_kept only_name ≡ true
unfolding is_kept
only_kept = refl

pub column_kept : (k : ℕ) → is_kept (column_name k) ≡ true
unfolding is_kept
column_kept k = refl

abbrev pub Kept : Name → Type 0
Kept n = is_kept n ≡ true

values_kept : (i n : ℕ) → Every Kept (map column_name (count_from i n))
values_kept i zero = tt
values_kept i (suc n) = (column_kept i, values_kept (suc i) n)

pub row_kept : (w : ℕ) → Every Kept (row_names w)
unfolding is_kept
row_kept w = (refl, (refl, every_both Kept (value_names w) (result_name ∷ fault_name ∷ []) (values_kept 0 w) (refl, (refl, tt))))

-- ---- the names of a row

-- none of the numbered columns has another letter
values_other : (x : Name) → ((k : ℕ) → Apart x (column_name k)) → (i n : ℕ) → Every (Apart x) (map column_name (count_from i n))
values_other x h i zero = tt
values_other x h i (suc n) = (h i, values_other x h (suc i) n)

later_values : (j i n : ℕ) → j < i → i + n ≤ 2 ^ 64 → Every (Apart (column_name j)) (map column_name (count_from i n))
later_values j i zero lt fits = tt
later_values j i (suc n) lt fits = (columns_apart j i lt (omega (arith, fits)), later_values j (suc i) n (omega (arith, lt)) (omega (arith, fits)))

abbrev ends : List Name
ends = result_name ∷ fault_name ∷ []

values_apart : (i n : ℕ) → i + n ≤ 2 ^ 64 → AllApart (map column_name (count_from i n) ++ ends)
values_apart i zero fits = ((letter_apart result_name fault_name refl, tt), (tt, tt))
values_apart i (suc n) fits = (
  every_both (Apart (column_name i)) (map column_name (count_from (suc i) n)) ends (later_values i (suc i) n (omega arith) (omega (arith, fits)))
      (letter_apart (column_name i) result_name refl, (letter_apart (column_name i) fault_name refl, tt)),
  values_apart (suc i) n (omega (arith, fits)),
)

pub row_apart : (w : ℕ) → w < 2 ^ 64 → AllApart (row_names w)
row_apart w fits = (
  (
    letter_apart go_name label_name refl,
    every_both (Apart go_name) (value_names w) ends (values_other go_name (λ k. letter_apart go_name (column_name k) refl) 0 w)
        (letter_apart go_name result_name refl, (letter_apart go_name fault_name refl, tt)),
  ),
  (
    every_both (Apart label_name) (value_names w) ends (values_other label_name (λ k. letter_apart label_name (column_name k) refl) 0 w)
        (letter_apart label_name result_name refl, (letter_apart label_name fault_name refl, tt)),
    values_apart 0 w (omega (arith, fits)),
  ),
)

pub only_apart : AllApart (only_name ∷ [])
only_apart = (tt, tt)

-- ---- how many there are

counted : (i n : ℕ) → length (count_from i n) ≡ n
counted i zero = refl
counted i (suc n) = ap (λ k. suc k) (counted (suc i) n)

pub row_length : (w : ℕ) → length (row_names w) ≡ suc (suc (suc (suc w)))
row_length w = rows 0 w
  where
    rows : (i n : ℕ) → suc (suc (length (map column_name (count_from i n) ++ ends))) ≡ suc (suc (suc (suc n)))
    rows i zero = refl
    rows i (suc n) = ap (λ k. suc k) (rows (suc i) n)

pub record HasColumn (w i : ℕ) : Type 0 where
  pub name : Name
  pub there : slice_get (row_names w) i ≡ Some name
  pub kept : is_kept name ≡ true

pub column_there : (w i : ℕ) → i < suc (suc (suc (suc w))) → HasColumn w i
column_there w i lt =
    let there = element_there (row_names w) i (omega (arith, lt, row_length w)) in
    record { name = there.0; there = there.1; kept = every_at Kept (row_names w) i there.0 (row_kept w) there.1 }
