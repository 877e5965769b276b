-- Names that differ: a list of them has no double, and each stands at its own place.
use Rattle.std.proofs.Common.{◌≡◌, refl, ap, sym, ◌∙◌, subst, ℕ, zero, suc, ◌+◌, ◌||◌, Bool, true, false, cond, List, [], ◌∷◌, ◌++◌, map, Some, arith}
use Rattle.std.specs.Prelude.{slice_get, bytes_eq}
use Rattle.std.specs.List.{position_from}
use Rattle.std.proofs.lemmas.Option.{same_Some}
use Rattle.std.proofs.lemmas.Slice.Eq.{bytes_eq-Decides}
use Rattle.away_names.specs.Lookups.{Name, is_named, is_among, doubled, has_double, place_of}
use Rattle.away_names.specs.Naming.{plain_names}
use Rattle.qualified_names.proofs.Gives.{Every}

-- ---- lists

pub every_both : {A : Type 0} (P : A → Type 0) (xs ys : List A) → Every P xs → Every P ys → Every P (xs ++ ys)
every_both P [] ys h k = k
every_both P (x ∷ xs) ys h k = (h.0, every_both P xs ys h.1 k)

pub every_map : {A B : Type 0} (P : A → Type 0) (Q : B → Type 0) (f : A → B) (xs : List A) → ((x : A) → P x → Q (f x)) → Every P xs → Every Q (map f xs)
every_map P Q f [] more h = tt
every_map P Q f (x ∷ xs) more h = (more x h.0, every_map P Q f xs more h.1)

pub every_at : {A : Type 0} (P : A → Type 0) (xs : List A) (i : ℕ) (x : A) → Every P xs → slice_get xs i ≡ Some x → P x
every_at P [] i x h e = absurd (cc)
every_at P (y ∷ xs) zero x h e = subst P (same_Some y x e) h.0
every_at P (y ∷ xs) (suc i) x h e = every_at P xs i x h.1 e

-- ---- two names

abbrev pub Apart : Name → Name → Type 0
Apart n m = m ≡ n → ⊥

pub apart_false : (m n : Name) → Apart n m → bytes_eq m n ≡ false
apart_false m n h = by (bytes_eq m n) refl
  where
    by : (b : Bool) → bytes_eq m n ≡ b → bytes_eq m n ≡ false
    by true e = absurd (h ((bytes_eq-Decides m n).0 e))
    by false e = e

pub same_true : (n : Name) → bytes_eq n n ≡ true
same_true n = (bytes_eq-Decides n n).1 refl

-- ---- lists of names

-- each name differs from those behind it
abbrev pub AllApart : List Name → Type 0
AllApart [] = Unit {0}
AllApart (n ∷ ns) = Every (Apart n) ns × AllApart ns

none_among : (n : Name) (ns : List Name) → Every (Apart n) ns → is_among n ns ≡ false
none_among n [] h = refl
none_among n (m ∷ ns) h = λ i. apart_false m n h.0 i || none_among n ns h.1 i

pub no_double : (ns : List Name) → AllApart ns → has_double ns ≡ false
unfolding has_double
no_double ns h = each ns h
  where
    each : (ns : List Name) → AllApart ns → doubled ns ≡ false
    each [] h = refl
    each (n ∷ ns) h = λ i. none_among n ns h.0 i || each ns h.1 i

-- one more at the end
pub apart_more : (ns : List Name) (n : Name) → AllApart ns → Every (λ m. Apart m n) ns → AllApart (ns ++ n ∷ [])
apart_more [] n h k = (tt, tt)
apart_more (m ∷ ns) n h k = (every_both (Apart m) ns (n ∷ []) h.0 (k.0, tt), apart_more ns n h.1 k.1)

place_from : (n : Name) (k : ℕ) (ns : List Name) (i : ℕ) → AllApart ns → slice_get ns i ≡ Some n → position_from (is_named n) k (plain_names ns) ≡ Some (k + i)
place_from n k [] i h e = absurd (cc)
place_from n k (m ∷ ns) zero h e =
    let same : m ≡ n = same_Some m n e in
    let here : k ≡ k + 0 = omega arith in
    ap (λ b. cond b (Some k) (position_from (is_named n) (k + 1) (plain_names ns))) (ap (λ x. bytes_eq x n) same ∙ same_true n) ∙ ap (λ j. Some j) here
place_from n k (m ∷ ns) (suc i) h e =
    let other : Apart n m = λ s. every_at (Apart m) ns i n h.0 e (sym s) in
    let further : k + 1 + i ≡ k + suc i = omega arith in
    ap (λ b. cond b (Some k) (position_from (is_named n) (k + 1) (plain_names ns))) (apart_false m n other)
    ∙ (place_from n (k + 1) ns i h.1 e ∙ ap (λ j. Some j) further)

-- where names differ, each stands at its place
pub own_place : (ns : List Name) (i : ℕ) (n : Name) → AllApart ns → slice_get ns i ≡ Some n → place_of n (plain_names ns) ≡ Some i
unfolding place_of
own_place ns i n h e = let z : 0 + i ≡ i = omega arith in place_from n 0 ns i h e ∙ ap (λ j. Some j) z
