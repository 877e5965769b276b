-- A list has two equal names where a name stands behind an equal one.
use Rattle.std.proofs.Common.{◌≡◌, refl, ap, sym, ◌∙◌, Bool, true, false, ◌||◌, List, [], ◌∷◌, ◌++◌, map, String, arith}
use Rattle.std.specs.Prelude.{bytes_eq, if◌then◌else◌, ◌<◌, length}
use Rattle.std.specs.List.{list_any}
use Rattle.std.proofs.lemmas.List.Folds.{list_any-append}
use Rattle.std.specs.String.{string_bytes, string_eq}
use Rattle.away_names.specs.Lookups.{Name, is_among, doubled, has_double}
use Rattle.away_names.specs.Schemas.{stands_in}

-- behind names that are different
abbrev pub doubled_behind : List Name → List Name → Bool
doubled_behind seen [] = false
doubled_behind seen (n ∷ ns) = stands_in n seen || doubled_behind (seen ++ n ∷ []) ns

or_false : (b : Bool) → (b || false) ≡ b
or_false true = refl
or_false false = refl

middle : (a b c d : Bool) → ((a || b) || (c || d)) ≡ ((a || c) || (b || d))
middle true b c d = refl
middle false true true d = refl
middle false true false d = refl
middle false false c d = refl

regrouped : (a b c d : Bool) → (a || ((b || c) || d)) ≡ ((a || b) || (c || d))
regrouped true b c d = refl
regrouped false true c d = refl
regrouped false false c d = refl

any_of_two : (p q : Name → Bool) (ns : List Name) → list_any (λ m. p m || q m) ns ≡ (list_any p ns || list_any q ns)
any_of_two p q [] = refl
any_of_two p q (n ∷ ns) = ap (λ b. (p n || q n) || b) (any_of_two p q ns) ∙ middle (p n) (q n) (list_any p ns) (list_any q ns)

one_more : (n : Name) (seen : List Name) (m : Name) → stands_in m (seen ++ n ∷ []) ≡ (stands_in m seen || bytes_eq m n)
one_more n seen m = list_any-append (bytes_eq m) seen (n ∷ []) ∙ ap (λ b. stands_in m seen || b) (or_false (bytes_eq m n))

behind_is : (seen ns : List Name) → doubled_behind seen ns ≡ (list_any (λ m. stands_in m seen) ns || doubled ns)
behind_is seen [] = refl
behind_is seen (n ∷ ns) =
    ap (λ b. stands_in n seen || b) (behind_is (seen ++ n ∷ []) ns)
    ∙ ap (λ f. stands_in n seen || (list_any f ns || doubled ns)) (λ i m. one_more n seen m i)
    ∙ ap (λ b. stands_in n seen || (b || doubled ns)) (any_of_two (λ m. stands_in m seen) (λ m. bytes_eq m n) ns)
    ∙ regrouped (stands_in n seen) (list_any (λ m. stands_in m seen) ns) (is_among n ns) (doubled ns)

none_stand : (ns : List Name) → list_any (λ m. stands_in m []) ns ≡ false
none_stand [] = refl
none_stand (n ∷ ns) = none_stand ns

pub none_behind : (ns : List Name) → has_double ns ≡ doubled_behind [] ns
unfolding has_double
none_behind ns = sym (behind_is [] ns ∙ ap (λ b. b || doubled ns) (none_stand ns))

pub any_of_bytes : {Z : Type 0} (q : Name) (ks : List (String Z)) → list_any (λ k. bytes_eq q (string_bytes k)) ks ≡ stands_in q (map string_bytes ks)
any_of_bytes q [] = refl
any_of_bytes q (k ∷ ks) = ap (λ b. bytes_eq q (string_bytes k) || b) (any_of_bytes q ks)

any_of_texts : {Z : Type 0} (name : String Z) (ks : List (String Z)) → list_any (string_eq name) ks ≡ stands_in (string_bytes name) (map string_bytes ks)
any_of_texts name [] = refl
any_of_texts name (k ∷ ks) = ap (λ b. string_eq name k || b) (any_of_texts name ks)

texts_behind : {Z : Type 0} (ks : List (String Z)) (name : String Z) → map string_bytes (ks ++ name ∷ []) ≡ map string_bytes ks ++ string_bytes name ∷ []
texts_behind [] name = refl
texts_behind (k ∷ ks) name = ap (λ xs. string_bytes k ∷ xs) (texts_behind ks name)

pub name_behind : {Z : Type 0} (ks new : List (String Z)) (name : String Z) (n : Name) → string_bytes name ≡ n → stands_in n (map string_bytes ks) ≡ false →
    new ≡ (if list_any (string_eq name) ks then ks else ks ++ name ∷ []) → map string_bytes new ≡ map string_bytes ks ++ n ∷ []
name_behind ks new name n e h is =
    ap (λ xs. map string_bytes xs) is
    ∙ ap (λ b. map string_bytes (if b then ks else ks ++ name ∷ [])) (any_of_texts name ks ∙ ap (λ m. stands_in m (map string_bytes ks)) e ∙ h)
    ∙ texts_behind ks name
    ∙ ap (λ m. map string_bytes ks ++ m ∷ []) e

pub none_left : {A : Type 0} (f : A → Name) (seen : List Name) (rest : List A) → length rest < 1 → doubled_behind seen (map f rest) ≡ false
none_left f seen [] h = refl
none_left f seen (x ∷ xs) h = absurd (omega (arith, h))
