-- The rows in their order are the same rows, in order, and ties keep theirs.
use Rattle.std.proofs.Common.{◌≡◌, refl, ap, sym, ◌∙◌, suc, Bool, true, false, not, ◌&&◌, if◌then◌else◌, List, [], ◌∷◌, filter, length}
use Rattle.std.specs.List.{AllByRecursion}
use Rattle.away_values.specs.declared.values.Value.{Value}
use Rattle.sql_meaning.specs.Ordered.{Keyed, Before, IsOrder, ties, InOrder}
use Rattle.sql_meaning.specs.Selects.{put, sorted}

abbrev Rs : Type 0
Rs = List Keyed

abbrev kept_if : Bool → Keyed → Rs → Rs
kept_if b x xs = if b then x ∷ xs else xs

true_false : true ≡ false → ⊥
true_false h = cc

-- ---- the same rows

swapped : (a b : Bool) (x y : Keyed) (zs : Rs) → length (kept_if a x (kept_if b y zs)) ≡ length (kept_if b y (kept_if a x zs))
swapped true true x y zs = refl
swapped true false x y zs = refl
swapped false true x y zs = refl
swapped false false x y zs = refl

longer : (b : Bool) (x : Keyed) (xs ys : Rs) → length xs ≡ length ys → length (kept_if b x xs) ≡ length (kept_if b x ys)
longer true x xs ys h = ap suc h
longer false x xs ys h = h

module _ (before : Before) (test : Keyed → Bool) where
  count_case : (b : Bool) (x y : Keyed) (ys more : Rs) → length (filter test more) ≡ length (filter test (x ∷ ys)) → length (filter test (if b then y ∷ more else x ∷ (y ∷ ys))) ≡ length (filter test (x ∷ (y ∷ ys)))
  count_case true x y ys more h = longer (test y) y (filter test more) (filter test (x ∷ ys)) h ∙ swapped (test y) (test x) y x (filter test ys)
  count_case false x y ys more h = refl

  count_put : (x : Keyed) (ys : Rs) → length (filter test (put before x ys)) ≡ length (filter test (x ∷ ys))
  count_put x [] = refl
  count_put x (y ∷ ys) = count_case (before y.0 x.0) x y ys (put before x ys) (count_put x ys)

  pub same_rows : (xs : Rs) → length (filter test (sorted before xs)) ≡ length (filter test xs)
  same_rows [] = refl
  same_rows (x ∷ xs) = count_put x (sorted before xs) ∙ longer (test x) x (filter test (sorted before xs)) (filter test xs) (same_rows xs)

-- ---- in order

all_by : {X : Type 0} (P Q : X → Type 0) → ((x : X) → P x → Q x) → (xs : List X) → AllByRecursion P xs → AllByRecursion Q xs
all_by P Q go [] h = tt
all_by P Q go (x ∷ xs) h = (go x h.0, all_by P Q go xs h.1)

module _ (before : Before) (order : IsOrder before) where
  all_case : (P : Keyed → Type 0) (b : Bool) (x y : Keyed) (ys more : Rs) → P x → AllByRecursion P (y ∷ ys) → AllByRecursion P more → AllByRecursion P (if b then y ∷ more else x ∷ (y ∷ ys))
  all_case P true x y ys more p h k = (h.0, k)
  all_case P false x y ys more p h k = (p, h)

  all_put : (P : Keyed → Type 0) (x : Keyed) (ys : Rs) → P x → AllByRecursion P ys → AllByRecursion P (put before x ys)
  all_put P x [] p h = (p, tt)
  all_put P x (y ∷ ys) p h = all_case P (before y.0 x.0) x y ys (put before x ys) p h (all_put P x ys p h.1)

  order_case : (b : Bool) (x y : Keyed) (ys : Rs) → before y.0 x.0 ≡ b → InOrder before (y ∷ ys) → InOrder before (put before x ys) → InOrder before (if b then y ∷ put before x ys else x ∷ (y ∷ ys))
  order_case true x y ys e h k = (all_put (λ z. before z.0 y.0 ≡ false) x ys (order.never_both y.0 x.0 e) h.0, k)
  order_case false x y ys e h k = ((e, all_by (λ z. before z.0 y.0 ≡ false) (λ z. before z.0 x.0 ≡ false) (λ z p. order.passes_on x.0 y.0 z.0 e p) ys h.0), h)

  order_put : (x : Keyed) (ys : Rs) → InOrder before ys → InOrder before (put before x ys)
  order_put x [] h = (tt, tt)
  order_put x (y ∷ ys) h = order_case (before y.0 x.0) x y ys refl h (order_put x ys h.1)

  pub in_order : (xs : Rs) → InOrder before (sorted before xs)
  in_order [] = tt
  in_order (x ∷ xs) = order_put x (sorted before xs) (in_order xs)

  -- ---- ties keep their order

  first_of : (a b : Bool) → (not a && not b) ≡ true → a ≡ false
  first_of false b h = refl
  first_of true b h = cc

  second_of : (a b : Bool) → (not a && not b) ≡ true → b ≡ false
  second_of false false h = refl
  second_of false true h = cc
  second_of true b h = cc

  -- where x goes past y, not both tie with the keys k
  tie_case : (k : List Value) (x y : Keyed) → before y.0 x.0 ≡ true → (a b : Bool) → ties before k x.0 ≡ a → ties before k y.0 ≡ b → (zs : Rs) → kept_if b y (kept_if a x zs) ≡ kept_if a x (kept_if b y zs)
  tie_case k x y e true true p q zs =
      absurd (true_false (sym e ∙ order.passes_on x.0 k y.0 (first_of (before k x.0) (before x.0 k) p) (second_of (before k y.0) (before y.0 k) q)))
  tie_case k x y e true false p q zs = refl
  tie_case k x y e false true p q zs = refl
  tie_case k x y e false false p q zs = refl

  module _ (k : List Value) where
    abbrev tied : Keyed → Bool
    tied x = ties before k x.0

    stable_case : (b : Bool) (x y : Keyed) (ys more : Rs) → before y.0 x.0 ≡ b → filter tied more ≡ filter tied (x ∷ ys) → filter tied (if b then y ∷ more else x ∷ (y ∷ ys)) ≡ filter tied (x ∷ (y ∷ ys))
    stable_case true x y ys more e h = ap (kept_if (tied y) y) h ∙ tie_case k x y e (tied x) (tied y) refl refl (filter tied ys)
    stable_case false x y ys more e h = refl

    stable_put : (x : Keyed) (ys : Rs) → filter tied (put before x ys) ≡ filter tied (x ∷ ys)
    stable_put x [] = refl
    stable_put x (y ∷ ys) = stable_case (before y.0 x.0) x y ys (put before x ys) refl (stable_put x ys)

    pub stable : (xs : Rs) → filter tied (sorted before xs) ≡ filter tied xs
    stable [] = refl
    stable (x ∷ xs) = stable_put x (sorted before xs) ∙ ap (kept_if (tied x) x) (stable xs)
