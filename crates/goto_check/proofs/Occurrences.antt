-- A walk over slots passes all of a list just where the list has each slot once, in the order of first occurrence.
use Rattle.std.proofs.Common.{◌≡◌, ℕ, suc, ◌+◌, ◌<◌, ◌≤◌, Bool, true, false, not, ◌&&◌, ◌||◌, List, [], ◌∷◌, ◌++◌, length, filter, fold, Option, Some, None, ◌↔◌, refl, sym, ap, ◌∙◌, subst, cond, nat_eq, arith, length-append}
use Rattle.std.proofs.lemmas.Bool.{eqb-true, eq-eqb}
use Rattle.std.proofs.lemmas.Bool.Decides.{nat_tests}
use Rattle.std.proofs.lemmas.List.{append_assoc, append-nil}
use Rattle.sql_meaning.specs.Reads.{first_occurrences}
use Rattle.goto_check.specs.Passing.{first_place, pass_from, pass}

abbrev has : List ℕ → ℕ → Bool
has [] x = false
has (y ∷ ys) x = nat_eq x y || has ys x

-- each slot once, in the order of first occurrence, without those that have been
abbrev fresh : List ℕ → List ℕ → List ℕ
fresh seen [] = []
fresh seen (x ∷ xs) = cond (has seen x) (fresh seen xs) (x ∷ fresh (seen ++ x ∷ []) xs)

-- ---- these are the first occurrences

filtered_head : (p : ℕ → Bool) (b : Bool) (x : ℕ) (xs : List ℕ) → filter p (cond b (x ∷ xs) xs) ≡ cond b (cond (p x) (x ∷ filter p xs) (filter p xs)) (filter p xs)
filtered_head p true x xs = refl
filtered_head p false x xs = refl

same_heads : (b c d : Bool) (x : ℕ) (xs ys : List ℕ) → (b && c) ≡ d → xs ≡ ys → cond b (cond c (x ∷ xs) xs) xs ≡ cond d (x ∷ ys) ys
same_heads true c d x xs ys e h = λ i. cond (e i) (x ∷ h i) (h i)
same_heads false c d x xs ys e h = h ∙ ap (λ d. cond d (x ∷ ys) ys) e

twice : (p q r : ℕ → Bool) → ((y : ℕ) → (q y && p y) ≡ r y) → (xs : List ℕ) → filter p (filter q xs) ≡ filter r xs
twice p q r h [] = refl
twice p q r h (x ∷ xs) = filtered_head p (q x) x (filter q xs) ∙ same_heads (q x) (p x) (r x) x (filter p (filter q xs)) (filter r xs) (h x) (twice p q r h xs)

has_more : (seen : List ℕ) (x y : ℕ) → (not (nat_eq y x) && not (has seen y)) ≡ not (has (seen ++ x ∷ []) y)
has_more [] x y = by (nat_eq y x)
  where
    by : (b : Bool) → (not b && true) ≡ not (b || false)
    by true = refl
    by false = refl
has_more (s ∷ seen) x y = by (nat_eq y x) (nat_eq y s) (has seen y) (has (seen ++ x ∷ []) y) (has_more seen x y)
  where
    by : (a b c d : Bool) → (not a && not c) ≡ not d → (not a && not (b || c)) ≡ not (b || d)
    by true b c true e = by_or b
      where
        by_or : (b : Bool) → false ≡ not (b || true)
        by_or true = refl
        by_or false = refl
    by true b c false e = absurd (cc)
    by false true c d e = refl
    by false false c d e = e

has_same : (seen : List ℕ) (x y : ℕ) → has seen x ≡ true → (not (nat_eq y x) && not (has seen y)) ≡ not (has seen y)
has_same seen x y h = by (nat_eq y x) (has seen y) refl refl
  where
    by : (a b : Bool) → nat_eq y x ≡ a → has seen y ≡ b → (not a && not b) ≡ not b
    by true true e f = refl
    by true false e f = let q : has seen y ≡ true = ap (has seen) (eqb-true y x e) ∙ h in absurd (cc)
    by false b e f = refl

pub fresh_ones : (seen xs : List ℕ) → fresh seen xs ≡ filter (λ y. not (has seen y)) (first_occurrences xs)
fresh_ones seen [] = refl
fresh_ones seen (x ∷ xs) = by (has seen x) refl (fresh_ones seen xs) (fresh_ones (seen ++ x ∷ []) xs)
  where
    by : (b : Bool) → has seen x ≡ b → fresh seen xs ≡ filter (λ y. not (has seen y)) (first_occurrences xs) → fresh (seen ++ x ∷ []) xs ≡ filter (λ y. not (has (seen ++ x ∷ []) y)) (first_occurrences xs)
        → cond b (fresh seen xs) (x ∷ fresh (seen ++ x ∷ []) xs) ≡ cond (not b) (x ∷ filter (λ y. not (has seen y)) (filter (λ y. not (nat_eq y x)) (first_occurrences xs))) (filter (λ y. not (has seen y)) (filter (λ y. not (nat_eq y x)) (first_occurrences xs)))
    by true e h k = h ∙ sym (twice (λ y. not (has seen y)) (λ y. not (nat_eq y x)) (λ y. not (has seen y)) (λ y. has_same seen x y e) (first_occurrences xs))
    by false e h k = ap (λ l. x ∷ l) (k ∙ sym (twice (λ y. not (has seen y)) (λ y. not (nat_eq y x)) (λ y. not (has (seen ++ x ∷ []) y)) (λ y. has_more seen x y) (first_occurrences xs)))

all_kept : (xs : List ℕ) → filter (λ y. true) xs ≡ xs
all_kept [] = refl
all_kept (x ∷ xs) = ap (λ l. x ∷ l) (all_kept xs)

-- ---- the walk

place_seen : (seen rest : List ℕ) (x : ℕ) → has seen x ≡ true → first_place (seen ++ rest) x < length seen
place_seen [] rest x h = absurd (cc)
place_seen (s ∷ seen) rest x h = by (nat_eq x s) h (λ h. place_seen seen rest x h)
  where
    by : (b : Bool) → (b || has seen x) ≡ true → (has seen x ≡ true → first_place (seen ++ rest) x < length seen) → cond b 0 (1 + first_place (seen ++ rest) x) < suc (length seen)
    by true h k = omega arith
    by false h k = let r = k h in omega (arith, r)

place_unseen : (seen rest : List ℕ) (x : ℕ) → has seen x ≡ false → first_place (seen ++ rest) x ≡ length seen + first_place rest x
place_unseen [] rest x h = omega arith
place_unseen (s ∷ seen) rest x h = by (nat_eq x s) h (λ h. place_unseen seen rest x h)
  where
    by : (b : Bool) → (b || has seen x) ≡ false → (has seen x ≡ false → first_place (seen ++ rest) x ≡ length seen + first_place rest x) → cond b 0 (1 + first_place (seen ++ rest) x) ≡ suc (length seen) + first_place rest x
    by true h k = absurd (cc)
    by false h k = let r = k h in omega (arith, r)

pass_seen : (names : List ℕ) (k x : ℕ) → first_place names x < k → pass_from names k x ≡ Some k
pass_seen names k x h = grind (arith, nat_tests)

pass_next : (names : List ℕ) (k x : ℕ) → first_place names x ≡ k → k < length names → pass_from names k x ≡ Some (k + 1)
pass_next names k x h l = grind (arith, nat_tests)

pass_past : (names : List ℕ) (k x : ℕ) → k < first_place names x → pass_from names k x ≡ None
pass_past names k x h = grind (arith, nat_tests)

pass_end : (names : List ℕ) (k x : ℕ) → k ≤ first_place names x → length names ≤ k → pass_from names k x ≡ None
pass_end names k x h l = grind (arith, nat_tests)

none_stays : (names xs : List ℕ) → fold (pass names) None xs ≡ None
none_stays names [] = refl
none_stays names (x ∷ xs) = none_stays names xs

empty : (xs : List ℕ) → length xs ≡ 0 → xs ≡ []
empty [] h = refl
empty (x ∷ xs) h = absurd (omega arith)

-- where so many have been
abbrev Ends : List ℕ → Option ℕ → List ℕ → Type 0
Ends names k xs = fold (pass names) k xs ≡ Some (length names)

no_end : {P : Type 0} (names : List ℕ) (k x : ℕ) (xs : List ℕ) → pass_from names k x ≡ None → Ends names (Some k) (x ∷ xs) → P
no_end names k x xs h e = let none : fold (pass names) None xs ≡ Some (length names) = ap (λ k. fold (pass names) k xs) (sym h) ∙ e in absurd (cc (none, none_stays names xs))

head_is : (y x : ℕ) (ys xs : List ℕ) → y ∷ ys ≡ x ∷ xs → y ≡ x
head_is y x ys xs e = cc

tail_is : (y x : ℕ) (ys xs : List ℕ) → y ∷ ys ≡ x ∷ xs → ys ≡ xs
tail_is y x ys xs e = cc

-- a slot that has been, one that is next, and what follows each
after_seen : (names xs : List ℕ) (k x : ℕ) {P : Type 0} → pass_from names k x ≡ Some k → Ends names (Some k) xs ↔ P → Ends names (Some k) (x ∷ xs) ↔ P
after_seen names xs k x s ih = (λ h. ih.0 (ap (λ k. fold (pass names) k xs) (sym s) ∙ h), λ e. ap (λ k. fold (pass names) k xs) s ∙ ih.1 e)

abbrev Next : List ℕ → ℕ → List ℕ → List ℕ → Type 0
Next seen x xs rest = Ends ((seen ++ x ∷ []) ++ rest) (Some (length (seen ++ x ∷ []))) xs ↔ (rest ≡ fresh (seen ++ x ∷ []) xs)

after_next : (seen rest xs : List ℕ) (x y : ℕ) → has seen x ≡ false → x ≡ y → Next seen x xs rest → Ends (seen ++ y ∷ rest) (Some (length seen)) (x ∷ xs) ↔ (y ∷ rest ≡ x ∷ fresh (seen ++ x ∷ []) xs)
after_next seen rest xs x y unseen same ih =
    let names = seen ++ y ∷ rest in
    let whole : (seen ++ x ∷ []) ++ rest ≡ names = append_assoc seen (x ∷ []) rest ∙ ap (λ z. seen ++ z ∷ rest) same in
    let more : length (seen ++ x ∷ []) ≡ length seen + 1 = length-append seen (x ∷ []) in
    let here : first_place (y ∷ rest) x ≡ 0 = ap (λ b. cond b 0 (1 + first_place rest x)) (eq-eqb x y same) in
    let place : first_place names x ≡ length seen = let p = place_unseen seen (y ∷ rest) x unseen in omega (arith, p, here) in
    let s : pass_from names (length seen) x ≡ Some (length seen + 1) = pass_next names (length seen) x place (let p = length-append seen (y ∷ rest) in omega (arith, p)) in
    let link : Ends ((seen ++ x ∷ []) ++ rest) (Some (length (seen ++ x ∷ []))) xs ≡ Ends names (Some (length seen + 1)) xs = λ i. Ends (whole i) (Some (more i)) xs in (
      λ h i. sym same i ∷ ih.0 (subst (λ X. X) (sym link) (ap (λ k. fold (pass names) k xs) (sym s) ∙ h)) i,
      λ e. ap (λ k. fold (pass names) k xs) s ∙ subst (λ X. X) link (ih.1 (tail_is y x rest _ e)),
    )

after_other : (seen rest xs : List ℕ) (x y : ℕ) → has seen x ≡ false → nat_eq x y ≡ false → Ends (seen ++ y ∷ rest) (Some (length seen)) (x ∷ xs) ↔ (y ∷ rest ≡ x ∷ fresh (seen ++ x ∷ []) xs)
after_other seen rest xs x y unseen other =
    let here : first_place (y ∷ rest) x ≡ 1 + first_place rest x = ap (λ b. cond b 0 (1 + first_place rest x)) other in (
      λ h. no_end (seen ++ y ∷ rest) (length seen) x xs (pass_past (seen ++ y ∷ rest) (length seen) x (let p = place_unseen seen (y ∷ rest) x unseen in omega (arith, p, here))) h,
      λ e. let yes : nat_eq x y ≡ true = eq-eqb x y (sym (head_is y x rest _ e)) in absurd (cc (yes, other)),
    )

after_unseen : (seen rest xs : List ℕ) (x : ℕ) → has seen x ≡ false → ((rest : List ℕ) → Next seen x xs rest) → Ends (seen ++ rest) (Some (length seen)) (x ∷ xs) ↔ (rest ≡ x ∷ fresh (seen ++ x ∷ []) xs)
after_unseen seen [] xs x unseen ih = (
  λ h. no_end (seen ++ []) (length seen) x xs (pass_end (seen ++ []) (length seen) x (let p = place_unseen seen [] x unseen in omega (arith, p)) (let p = length-append seen [] in omega (arith, p))) h,
  λ e. absurd (cc),
)
after_unseen seen (y ∷ rest) xs x unseen ih = by (nat_eq x y) refl
  where
    by : (b : Bool) → nat_eq x y ≡ b → Ends (seen ++ y ∷ rest) (Some (length seen)) (x ∷ xs) ↔ (y ∷ rest ≡ x ∷ fresh (seen ++ x ∷ []) xs)
    by true e = after_next seen rest xs x y unseen (eqb-true x y e) (ih rest)
    by false e = after_other seen rest xs x y unseen e

walk : (xs seen rest : List ℕ) → Ends (seen ++ rest) (Some (length seen)) xs ↔ (rest ≡ fresh seen xs)
walk [] seen rest = (
  λ h. let many : length seen ≡ length (seen ++ rest) = cc in let both = length-append seen rest in empty rest (omega arith),
  λ e. ap (λ r. Some (length r)) (sym (ap (λ r. seen ++ r) e ∙ append-nil seen)),
)
walk (x ∷ xs) seen rest = by (has seen x) refl (walk xs seen rest) (λ rest. walk xs (seen ++ x ∷ []) rest)
  where
    by : (b : Bool) → has seen x ≡ b → Ends (seen ++ rest) (Some (length seen)) xs ↔ (rest ≡ fresh seen xs) → ((rest : List ℕ) → Next seen x xs rest) → Ends (seen ++ rest) (Some (length seen)) (x ∷ xs) ↔ (rest ≡ cond b (fresh seen xs) (x ∷ fresh (seen ++ x ∷ []) xs))
    by true e ih next = after_seen (seen ++ rest) xs (length seen) x (pass_seen (seen ++ rest) (length seen) x (place_seen seen rest x e)) ih
    by false e ih next = after_unseen seen rest xs x e next

pub passes_all : (names xs : List ℕ) → (fold (pass names) (Some 0) xs ≡ Some (length names)) ↔ (names ≡ first_occurrences xs)
passes_all names xs =
    let same : fresh [] xs ≡ first_occurrences xs = fresh_ones [] xs ∙ all_kept (first_occurrences xs) in
    let w = walk xs [] names in
    (λ h. w.0 h ∙ same, λ e. w.1 (e ∙ sym same))
