-- Reading a row by its places.
use Rattle.std.proofs.Common.{◌≡◌, refl, ap, ◌∙◌, ℕ, zero, suc, true, nat_lt, List, [], ◌∷◌, ◌++◌, map, length, slice_index_or}
use Rattle.std.proofs.lemmas.List.{get_or_append_left}
use Rattle.std.proofs.lemmas.Bool.{ltb-true}
use Rattle.away_values.specs.declared.values.Value.{Value}
use Rattle.away_values.specs.declared.values.Value.TheVariants as val
use Rattle.sql_meaning.specs.Context.{Rows, at}
use Rattle.sql_meaning.specs.Template.{count_from, below}
use Rattle.sql_meaning.specs.Working.{with_table}

shifted : (x : Value) (xs : List Value) (k n : ℕ) → map (λ i. at (x ∷ xs) i) (count_from (suc k) n) ≡ map (λ i. at xs i) (count_from k n)
shifted x xs k zero = refl
shifted x xs k (suc n) = ap (λ ys. at xs k ∷ ys) (shifted x xs (suc k) n)

pub read_all : (xs : List Value) → map (λ i. at xs i) (below (length xs)) ≡ xs
read_all [] = refl
read_all (x ∷ xs) = ap (λ ys. x ∷ ys) (shifted x xs 0 (length xs) ∙ read_all xs)

-- a NULL for each member of a list, and two values
abbrev pub nulls_then : {A : Type 0} → List A → Value → Value → List Value
nulls_then xs v w = map (λ x. val.Null) xs ++ (v ∷ w ∷ [])

pub length_nulls : {A : Type 0} (xs : List A) (v w : Value) → length (nulls_then xs v w) ≡ suc (suc (length xs))
length_nulls [] v w = refl
length_nulls (x ∷ xs) v w = ap suc (length_nulls xs v w)

pub at_value : {A : Type 0} (xs : List A) (v w : Value) → at (nulls_then xs v w) (length xs) ≡ v
at_value [] v w = refl
at_value (x ∷ xs) v w = at_value xs v w

pub after_value : {A : Type 0} (xs : List A) (v w : Value) → at (nulls_then xs v w) (suc (length xs)) ≡ w
after_value [] v w = refl
after_value (x ∷ xs) v w = after_value xs v w

pub last_table : (T : List Rows) (rows : Rows) → slice_index_or (with_table T rows) (length T) [] ≡ rows
last_table [] rows = refl
last_table (t ∷ T) rows = last_table T rows

pub at_append : (xs ys : List Value) (i : ℕ) → nat_lt i (length xs) ≡ true → at (xs ++ ys) i ≡ at xs i
at_append xs ys i h = get_or_append_left xs ys val.Null i (ltb-true i (length xs) h)
