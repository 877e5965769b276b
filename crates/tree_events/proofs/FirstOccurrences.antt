-- First occurrences of a list that grows at its end.
use Rattle.std.proofs.Common.{◌≡◌, ℕ, suc, ◌+◌, ◌<◌, Bool, true, false, not, cond, List, [], ◌∷◌, ◌++◌, length, get_or, take, refl, sym, ap, ◌∙◌, subst, append-nil, arith}
use Rattle.std.specs.Prelude.{nat_eq, ◌==◌, if◌then◌else◌, filter}
use Rattle.std.proofs.lemmas.Bool.{eqb-true, eq-eqb, ne_eqb}
use Rattle.std.proofs.lemmas.List.{take_more}
use Rattle.sql_meaning.specs.Reads.{first_occurrences}
use Rattle.tree_events.specs.Occurrences.{contains, kept_with}

abbrev without : ℕ → List ℕ → List ℕ
without x = filter (λ y. not (y == x))

without_append : (x : ℕ) (ys zs : List ℕ) → without x (ys ++ zs) ≡ without x ys ++ without x zs
without_append x [] zs = refl
without_append x (y ∷ ys) zs = by (not (nat_eq y x)) (without_append x ys zs)
  where
    by : (b : Bool) → without x (ys ++ zs) ≡ without x ys ++ without x zs → cond b (y ∷ without x (ys ++ zs)) (without x (ys ++ zs)) ≡ cond b (y ∷ without x ys) (without x ys) ++ without x zs
    by true e = ap (λ xs. y ∷ xs) e
    by false e = e

-- another number is still there
still_there : (x k : ℕ) (ys : List ℕ) → nat_eq x k ≡ false → contains k (without x ys) ≡ contains k ys
still_there x k [] ne = refl
still_there x k (y ∷ ys) ne = by (nat_eq y x) refl (still_there x k ys ne)
  where
    by : (b : Bool) → nat_eq y x ≡ b → contains k (without x ys) ≡ contains k ys → contains k (cond (not b) (y ∷ without x ys) (without x ys)) ≡ (if nat_eq y k then true else contains k ys)
    by true h e = e ∙ ap (λ c. if c then true else contains k ys) (sym (ap (λ z. nat_eq z k) (eqb-true y x h) ∙ ne))
    by false h e = ap (λ c. if nat_eq y k then true else c) e

alone : (x k : ℕ) (b : Bool) → nat_eq k x ≡ b → without x (k ∷ []) ≡ cond (not b) (k ∷ []) []
alone x k b e = ap (λ c. cond (not c) (k ∷ []) []) e

same_way : (x k : ℕ) (b : Bool) → nat_eq x k ≡ b → nat_eq k x ≡ b
same_way x k true e = eq-eqb k x (sym (eqb-true x k e))
same_way x k false e = ne_eqb k x (λ h. let t : nat_eq x k ≡ true = eq-eqb x k (sym h) in absurd (cc))

-- what stands behind the first number: the list with one more at its end
abbrev Grown : ℕ → List ℕ → Bool → Type 0
Grown k xs true = first_occurrences (xs ++ k ∷ []) ≡ first_occurrences xs
Grown k xs false = first_occurrences (xs ++ k ∷ []) ≡ first_occurrences xs ++ k ∷ []

grown : (k : ℕ) (xs : List ℕ) → Grown k xs (contains k (first_occurrences xs))
grown k [] = refl
grown k (x ∷ xs) = by (nat_eq x k) (contains k (first_occurrences xs)) refl refl (grown k xs)
  where
    by : (b c : Bool) → nat_eq x k ≡ b → contains k (first_occurrences xs) ≡ c → Grown k xs c → Grown k (x ∷ xs) (if b then true else contains k (without x (first_occurrences xs)))
    by true true e f g = ap (λ ys. x ∷ without x ys) g
    by true false e f g =
        ap (λ ys. x ∷ without x ys) g
        ∙ ap (λ ys. x ∷ ys) (without_append x (first_occurrences xs) (k ∷ []) ∙ ap (λ ys. without x (first_occurrences xs) ++ ys) (alone x k true (same_way x k true e)))
        ∙ ap (λ ys. x ∷ ys) (append-nil (without x (first_occurrences xs)))
    by false true e f g = subst (Grown k (x ∷ xs)) (sym (still_there x k (first_occurrences xs) e ∙ f)) (ap (λ ys. x ∷ without x ys) g)
    by false false e f g =
        subst (Grown k (x ∷ xs)) (sym (still_there x k (first_occurrences xs) e ∙ f)) (
        ap (λ ys. x ∷ without x ys) g
        ∙ ap (λ ys. x ∷ ys) (without_append x (first_occurrences xs) (k ∷ []) ∙ ap (λ ys. without x (first_occurrences xs) ++ ys) (alone x k false (same_way x k false e)))
        )

pub kept_there : (k : ℕ) (xs : List ℕ) → contains k xs ≡ true → kept_with k xs ≡ xs
unfolding kept_with
kept_there k xs e = ap (λ b. if b then xs else xs ++ k ∷ []) e

pub kept_new : (k : ℕ) (xs : List ℕ) → contains k xs ≡ false → kept_with k xs ≡ xs ++ k ∷ []
unfolding kept_with
kept_new k xs e = ap (λ b. if b then xs else xs ++ k ∷ []) e

pub ruleset keeping_rules = (kept_there, kept_new)

one_more : (k : ℕ) (xs : List ℕ) → first_occurrences (xs ++ k ∷ []) ≡ kept_with k (first_occurrences xs)
one_more k xs = by (contains k (first_occurrences xs)) refl (grown k xs)
  where
    by : (b : Bool) → contains k (first_occurrences xs) ≡ b → Grown k xs b → first_occurrences (xs ++ k ∷ []) ≡ kept_with k (first_occurrences xs)
    by true e g = g ∙ sym (kept_there k (first_occurrences xs) e)
    by false e g = g ∙ sym (kept_new k (first_occurrences xs) e)

pub occurrence_step : (xs : List ℕ) (i : ℕ) → i < length xs → first_occurrences (take (i + 1) xs) ≡ kept_with (get_or xs i 0) (first_occurrences (take i xs))
occurrence_step xs i lt = ap first_occurrences (take_more xs i 0 lt) ∙ one_more (get_or xs i 0) (take i xs)
