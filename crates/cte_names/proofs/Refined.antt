-- What is found among a function's own columns is found where columns that have no name have one of the query's own.
use Rattle.std.proofs.Common.{◌≡◌, refl, ap, subst, ◌∙◌, ℕ, zero, suc, ◌+◌, arith, Bool, true, false, if◌then◌else◌, List, [], ◌∷◌, ◌++◌, length, Option, Some, None, option_map}
use Rattle.std.specs.Prelude.{slice_get, cond, bytes_eq}
use Rattle.std.specs.List.{position_from}
use Rattle.std.specs.Option.{option_and_then}
use Rattle.std.proofs.lemmas.Slice.Eq.{bytes_eq-Decides}
use Rattle.away_trees.specs.declared.queries.Col.{Col}
use Rattle.away_trees.specs.declared.queries.Expr.TheVariants as expr
use Rattle.away_names.specs.declared.scope.Hit.{Hit}
use Rattle.away_names.specs.declared.scope.Seen.{Seen}
use Rattle.away_names.specs.Lookups.{Name, Level, or_else, is_named, is_kept, place_of, hit_at, in_item, nearest, column_qualified}
use Rattle.sql_meaning.proofs.Lists.{Zipped}
use Rattle.qualified_names.specs.Sight.{called, called_in, reference}

-- ---- names

-- the name of a column in the function, and in the query
abbrev pub NameSo : Option Name → Option Name → Type 0
NameSo (Some n) m = m ≡ Some n
NameSo None None = Unit {0}
NameSo None (Some m) = is_kept m ≡ true

pub record SeenSo (o p : Seen) : Type 0 where
  pub alias : p.alias ≡ o.alias
  pub written : is_kept o.alias ≡ false
  pub columns : Zipped NameSo o.columns p.columns

abbrev pub LevelSo : Level → Level → Type 0
LevelSo = Zipped SeenSo

-- the function's selects, and behind them some of the query's own where nothing is in sight
abbrev pub LevelsSo : List Level → List Level → Type 0
LevelsSo [] [] = Unit {0}
LevelsSo [] (m ∷ ms) = (m ≡ []) × LevelsSo [] ms
LevelsSo (l ∷ ls) [] = ⊥
LevelsSo (l ∷ ls) (m ∷ ms) = LevelSo l m × LevelsSo ls ms

never : (b : Bool) → b ≡ true → b ≡ false → ⊥
never true h k = cc
never false h k = cc

-- a kept name isn't one that isn't kept
pub kept_differs : (m n : Name) → is_kept m ≡ true → is_kept n ≡ false → bytes_eq m n ≡ false
kept_differs m n h k = by (bytes_eq m n) refl
  where
    by : (b : Bool) → bytes_eq m n ≡ b → bytes_eq m n ≡ false
    by false e = e
    by true e = absurd (never (is_kept m) h (ap is_kept ((bytes_eq-Decides m n).0 e) ∙ k))

pub differs_from_kept : (m n : Name) → is_kept m ≡ false → is_kept n ≡ true → bytes_eq m n ≡ false
differs_from_kept m n h k = by (bytes_eq m n) refl
  where
    by : (b : Bool) → bytes_eq m n ≡ b → bytes_eq m n ≡ false
    by false e = e
    by true e = absurd (never (is_kept m) (ap is_kept ((bytes_eq-Decides m n).0 e) ∙ k) h)

same_named : (n : Name) → is_kept n ≡ false → (x y : Option Name) → NameSo x y → is_named n y ≡ is_named n x
same_named n h (Some m) y r = ap (is_named n) r
same_named n h None None r = refl
same_named n h None (Some m) r = kept_differs m n r h

same_position : (n : Name) → is_kept n ≡ false → (k : ℕ) (xs ys : List (Option Name)) → Zipped NameSo xs ys → position_from (is_named n) k ys ≡ position_from (is_named n) k xs
same_position n h k [] [] r = refl
same_position n h k (x ∷ xs) (y ∷ ys) r = λ i. cond (same_named n h x y r.0 i) (Some k) (same_position n h (k + 1) xs ys r.1 i)
same_position n h k _ _ r = absurd r

same_place : (n : Name) → is_kept n ≡ false → (xs ys : List (Option Name)) → Zipped NameSo xs ys → place_of n ys ≡ place_of n xs
unfolding place_of
same_place n h xs ys r = same_position n h 0 xs ys r

-- ---- items

same_item : (a n : Name) → is_kept n ≡ false → (depth i : ℕ) (l k : Level) → LevelSo l k → in_item a n depth i k ≡ in_item a n depth i l
same_item a n h depth i [] [] r = refl
same_item a n h depth i (o ∷ os) (p ∷ ps) r =
    λ j. or_else (if bytes_eq (r.0.alias j) a then option_map (hit_at depth i false) (same_place n h o.columns p.columns r.0.columns j) else None) (same_item a n h depth (i + 1) os ps r.1 j)
same_item a n h depth i _ _ r = absurd r

-- an alias of the query's own is none of the function's
pub not_here : (a n : Name) → is_kept a ≡ true → (depth i : ℕ) (l k : Level) → LevelSo l k → in_item a n depth i k ≡ None
not_here a n h depth i [] [] r = refl
not_here a n h depth i (o ∷ os) (p ∷ ps) r =
    (λ j. or_else (if ((ap (λ m. bytes_eq m a) r.0.alias ∙ differs_from_kept o.alias a r.0.written h) j) then option_map (hit_at depth i false) (place_of n p.columns) else None) (in_item a n depth (i + 1) ps))
    ∙ not_here a n h depth (i + 1) os ps r.1
not_here a n h depth i _ _ r = absurd r

-- ---- selects

abbrev pub by_alias : Name → Name → ℕ → Level → Option Hit
by_alias a n depth level = in_item a n depth 0 level

nearest_still : (a n : Name) → is_kept n ≡ false → (k : ℕ) (ls ms more : List Level) → LevelsSo ls ms → (hit : Hit) → nearest (by_alias a n) k ls ≡ Some hit → nearest (by_alias a n) k (ms ++ more) ≡ Some hit
nearest_still a n h k [] ms more r hit e = absurd cc
nearest_still a n h k (l ∷ ls) (m ∷ ms) more r hit e =
    ap (λ o. or_else o (nearest (by_alias a n) (k + 1) (ms ++ more))) (same_item a n h k 0 l m r.0) ∙ by (nearest_still a n h (k + 1) ls ms more r.1 hit) (in_item a n k 0 l) refl e
  where
    by : (nearest (by_alias a n) (k + 1) ls ≡ Some hit → nearest (by_alias a n) (k + 1) (ms ++ more) ≡ Some hit) → (o : Option Hit) → in_item a n k 0 l ≡ o → or_else o (nearest (by_alias a n) (k + 1) ls) ≡ Some hit
        → or_else (in_item a n k 0 l) (nearest (by_alias a n) (k + 1) (ms ++ more)) ≡ Some hit
    by go (Some x) is e = ap (λ o. or_else o (nearest (by_alias a n) (k + 1) (ms ++ more))) is ∙ e
    by go None is e = ap (λ o. or_else o (nearest (by_alias a n) (k + 1) (ms ++ more))) is ∙ go e
nearest_still a n h k (l ∷ ls) [] more r hit e = absurd r

pub found_still : (a n : Name) → is_kept n ≡ false → (ls ms more : List Level) → LevelsSo ls ms → (hit : Hit) → column_qualified a n ls ≡ Some hit → column_qualified a n (ms ++ more) ≡ Some hit
unfolding column_qualified
found_still a n h ls ms more r hit e = nearest_still a n h 0 ls ms more r hit e

-- ---- what a column is called

-- the other member beside one of a list
pub record Beside {A B : Type 0} (R : A → B → Type 0) (ys : List B) (i : ℕ) (x : A) : Type 0 where
  pub other : B
  pub there : slice_get ys i ≡ Some other
  pub same : R x other

none_some : {A : Type 0} (x : A) → None ≡ Some x → ⊥
none_some x e = cc

some_is : {A : Type 0} (x y : A) → Some x ≡ Some y → x ≡ y
some_is x y e = cc

beside : {A B : Type 0} (R : A → B → Type 0) (xs : List A) (ys : List B) → Zipped R xs ys → (i : ℕ) (x : A) → slice_get xs i ≡ Some x → Beside R ys i x
beside R [] [] r i x e = absurd (none_some x e)
beside R (x ∷ xs) (y ∷ ys) r zero z e = record { other = y; there = refl; same = subst (λ w. R w y) (some_is x z e) r.0 }
beside R (x ∷ xs) (y ∷ ys) r (suc i) z e = let b = beside R xs ys r.1 i z e in record { other = b.other; there = b.there; same = b.same }
beside R _ _ r i x e = absurd r

beside_level : (ls ms : List Level) → LevelsSo ls ms → (i : ℕ) (x : Level) → slice_get ls i ≡ Some x → Beside LevelSo ms i x
beside_level [] ms r i x e = absurd (none_some x e)
beside_level (l ∷ ls) [] r i x e = absurd r
beside_level (l ∷ ls) (m ∷ ms) r zero z e = record { other = m; there = refl; same = subst (λ w. LevelSo w m) (some_is l z e) r.0 }
beside_level (l ∷ ls) (m ∷ ms) r (suc i) z e = let b = beside_level ls ms r.1 i z e in record { other = b.other; there = b.there; same = b.same }

still_there : {A : Type 0} (xs ys : List A) (i : ℕ) (x : A) → slice_get xs i ≡ Some x → slice_get (xs ++ ys) i ≡ Some x
still_there [] ys i x e = absurd (none_some x e)
still_there (y ∷ xs) ys zero x e = e
still_there (y ∷ xs) ys (suc i) x e = still_there xs ys i x e

pub behind_there : {A : Type 0} (xs ys : List A) (i : ℕ) → slice_get (xs ++ ys) (length xs + i) ≡ slice_get ys i
behind_there [] ys i = ap (slice_get ys) (let z : 0 + i ≡ i = omega arith in z)
behind_there (x ∷ xs) ys i = ap (slice_get (x ∷ (xs ++ ys))) (let z : length (x ∷ xs) + i ≡ suc (length xs + i) = omega arith in z) ∙ behind_there xs ys i

-- a column that is called by a name has an item in sight, which has this name there
pub record Called (levels : List Level) (c : Col) (a n : Name) : Type 0 where
  pub level : Level
  pub item : Seen
  pub level_there : slice_get levels c.level ≡ Some level
  pub item_there : slice_get level c.item ≡ Some item
  pub name_there : slice_get item.columns c.column ≡ Some (Some n)
  pub alias : item.alias ≡ a

not_column : (c : Col) (a n : Name) → expr.Column c ≡ expr.Dotted a n → ⊥
not_column c a n e = cc

first_same : (a b n m : Name) → expr.Dotted a n ≡ expr.Dotted b m → a ≡ b
first_same a b n m e = cc

second_same : (a b n m : Name) → expr.Dotted a n ≡ expr.Dotted b m → n ≡ m
second_same a b n m e = cc

pub called_by : (levels : List Level) (c : Col) (a n : Name) → reference levels c ≡ expr.Dotted a n → Called levels c a n
unfolding reference
called_by levels c a n e = by_level (slice_get levels c.level) refl e
  where
    by_name : (l : Level) (o : Seen) → slice_get levels c.level ≡ Some l → slice_get l c.item ≡ Some o → (x : Option (Option Name)) → slice_get o.columns c.column ≡ x
        → called o.alias c (option_and_then (λ n. n) x) ≡ expr.Dotted a n → Called levels c a n
    by_name l o i j None is e = absurd (not_column c a n e)
    by_name l o i j (Some None) is e = absurd (not_column c a n e)
    by_name l o i j (Some (Some m)) is e =
        record { level = l; item = o; level_there = i; item_there = j; name_there = is ∙ ap (λ m. Some (Some m)) (second_same o.alias a m n e); alias = first_same o.alias a m n e }

    by_item : (l : Level) → slice_get levels c.level ≡ Some l → (x : Option Seen) → slice_get l c.item ≡ x → called_in c x ≡ expr.Dotted a n → Called levels c a n
    by_item l i None is e = absurd (not_column c a n e)
    by_item l i (Some o) is e = by_name l o i is (slice_get o.columns c.column) refl e

    by_level : (x : Option Level) → slice_get levels c.level ≡ x → called_in c (option_and_then (λ level. slice_get level c.item) x) ≡ expr.Dotted a n → Called levels c a n
    by_level None is e = absurd (not_column c a n e)
    by_level (Some l) is e = by_item l is (slice_get l c.item) refl e

pub is_called : (levels : List Level) (c : Col) (a n : Name) → Called levels c a n → reference levels c ≡ expr.Dotted a n
unfolding reference
is_called levels c a n h =
    ap (λ x. called_in c (option_and_then (λ (level : Level). slice_get level c.item) x)) h.level_there
    ∙ (ap (called_in c) h.item_there
    ∙ (ap (λ x. called h.item.alias c (option_and_then (λ (n : Option Name). n) x)) h.name_there ∙ ap (λ a. expr.Dotted a n) h.alias))

-- it is called the same where the query's own names stand beside
pub called_still : (ls ms more : List Level) → LevelsSo ls ms → (c : Col) (a n : Name) → reference ls c ≡ expr.Dotted a n → reference (ms ++ more) c ≡ expr.Dotted a n
called_still ls ms more r c a n e =
    let h = called_by ls c a n e in
    let l = beside_level ls ms r c.level h.level h.level_there in
    let o = beside SeenSo h.level l.other l.same c.item h.item h.item_there in
    let x = beside NameSo h.item.columns o.other.columns o.same.columns c.column (Some n) h.name_there in
    is_called (ms ++ more) c a n (record {
      level = l.other;
      item = o.other;
      level_there = still_there ms more c.level l.other l.there;
      item_there = o.there;
      name_there = x.there ∙ ap (λ o. Some o) x.same;
      alias = o.same.alias ∙ h.alias;
    })
