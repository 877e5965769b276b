-- Where names stand, along the loops that find it.
use Rattle.std.proofs.Common.{◌≡◌, ℕ, zero, suc, ◌+◌, ◌<◌, ◌≤◌, Bool, true, false, cond, if◌then◌else◌, List, [], ◌∷◌, ◌++◌, length, map, drop, get_or, Option, Some, None, refl, sym, ap, ◌∙◌, subst, arith}
use Rattle.std.specs.Prelude.{nat_eq, slice_get}
use Rattle.std.proofs.lemmas.List.{drop_more}
use Rattle.std.proofs.lemmas.Option.{same_Some}
use Rattle.std.proofs.lemmas.Bool.{eqb-true, eq-eqb, ne_eqb}
use Rattle.away_trees.specs.declared.queries.Expr.{Expr}
use Rattle.away_values.specs.declared.types.Ty.{Ty}
use Rattle.call_forms.specs.Carrying.{behind}
use Rattle.call_forms.specs.Scopes.{Scope, paired}
use Rattle.cte_template.specs.Places.{nowhere, carried_place, place_or, place_of, stands, at_keys, beside}
use Rattle.cte_template.specs.declared.places.ItemColumn.{ItemColumn}

-- ---- the place of a name

pub found : (ps : List (ℕ × ItemColumn)) (n : ℕ) → place_of ps n ≡ place_or nowhere ps n
unfolding place_of
found ps n = refl

or_more : (d : ItemColumn) (ps : List (ℕ × ItemColumn)) (k : ℕ) (p : ItemColumn) (n : ℕ) → place_or d (ps ++ ((k, p) ∷ [])) n ≡ (if nat_eq k n then p else place_or d ps n)
or_more d [] k p n = refl
or_more d (q ∷ ps) k p n = or_more (if nat_eq q.0 n then q.1 else d) ps k p n

more : (ps : List (ℕ × ItemColumn)) (k : ℕ) (p : ItemColumn) (n : ℕ) → place_of (ps ++ ((k, p) ∷ [])) n ≡ (if nat_eq k n then p else place_of ps n)
unfolding place_of
more ps k p n = or_more nowhere ps k p n

same_way : (x k : ℕ) (b : Bool) → nat_eq x k ≡ b → nat_eq k x ≡ b
same_way x k true e = eq-eqb k x (sym (eqb-true x k e))
same_way x k false e = ne_eqb k x (λ h. let t : nat_eq x k ≡ true = eq-eqb x k (sym h) in absurd (cc))

pub one_stands : (ps : List (ℕ × ItemColumn)) (k : ℕ) (p : ItemColumn) → place_of (ps ++ ((k, p) ∷ [])) ≡ stands k p (place_of ps)
unfolding stands
one_stands ps k p = λ i n. (more ps k p n ∙ by n (nat_eq k n) refl) i
  where
    by : (n : ℕ) (b : Bool) → nat_eq k n ≡ b → (if nat_eq k n then p else place_of ps n) ≡ cond (nat_eq n k) p (place_of ps n)
    by n true e = ap (λ c. if c then p else place_of ps n) e ∙ sym (ap (λ c. cond c p (place_of ps n)) (same_way k n true e))
    by n false e = ap (λ c. if c then p else place_of ps n) e ∙ sym (ap (λ c. cond c p (place_of ps n)) (same_way k n false e))

-- ---- keys with their places

no_keys : (ps : List ItemColumn) (n : ℕ) → at_keys [] ps n ≡ nowhere
unfolding at_keys
no_keys ps n = refl

no_places : (ks : List ℕ) (n : ℕ) → at_keys ks [] n ≡ nowhere
unfolding at_keys
no_places [] n = refl
no_places (k ∷ ks) n = refl

dropped : {X : Type 0} (xs : List X) (i : ℕ) → length xs ≤ i → drop i xs ≡ []
dropped [] zero h = refl
dropped [] (suc i) h = refl
dropped (x ∷ xs) zero h = absurd (omega (arith, h))
dropped (x ∷ xs) (suc i) h = dropped xs i (omega (arith, h))

no_pairs : (n : ℕ) → place_of [] n ≡ nowhere
unfolding place_of
no_pairs n = refl

-- behind all keys there is none
pub keys_start : (ks : List ℕ) (ps : List ItemColumn) → place_of [] ≡ at_keys (drop (length ks) ks) (drop (length ks) ps)
keys_start ks ps = λ i n. (no_pairs n ∙ sym (ap (λ zs. at_keys zs (drop (length ks) ps) n) (dropped ks (length ks) (omega arith)) ∙ no_keys (drop (length ks) ps) n)) i

at_key : (k : ℕ) (ks : List ℕ) (p : ItemColumn) (ps : List ItemColumn) (n : ℕ) → at_keys (k ∷ ks) (p ∷ ps) n ≡ (if nat_eq k n then p else at_keys ks ps n)
unfolding at_keys
at_key k ks p ps n = refl

-- one key before the others
pub keys_next : (pairs : List (ℕ × ItemColumn)) (k : ℕ) (ks : List ℕ) (p : ItemColumn) (ps : List ItemColumn) → place_of pairs ≡ at_keys ks ps
    → place_of (pairs ++ ((k, p) ∷ [])) ≡ at_keys (k ∷ ks) (p ∷ ps)
keys_next pairs k ks p ps h = λ i n. (more pairs k p n ∙ (ap (λ (f : ℕ → ItemColumn). if nat_eq k n then p else f n) h ∙ sym (at_key k ks p ps n))) i

pub keys_before : (pairs new : List (ℕ × ItemColumn)) (ks : List ℕ) (ps : List ItemColumn) (i j e : ℕ) (d : ItemColumn) → new ≡ pairs ++ ((get_or ks i e, get_or ps i d) ∷ [])
    → j ≡ i + 1 → i < length ks → i < length ps → place_of pairs ≡ at_keys (drop j ks) (drop j ps) → place_of new ≡ at_keys (drop i ks) (drop i ps)
keys_before pairs new ks ps i j e d grown next lk lp h =
    ap place_of grown
    ∙ (keys_next pairs (get_or ks i e) (drop (i + 1) ks) (get_or ps i d) (drop (i + 1) ps) (h ∙ (λ z. at_keys (drop (next z) ks) (drop (next z) ps)))
    ∙ sym (λ z. at_keys (drop_more ks i e lk z) (drop_more ps i d lp z)))

-- a key without a place
pub keys_skip : (ks : List ℕ) (ps : List ItemColumn) (i j : ℕ) → length ps ≤ i → length ps ≤ j → at_keys (drop i ks) (drop i ps) ≡ at_keys (drop j ks) (drop j ps)
keys_skip ks ps i j g h =
    λ z n. (ap (λ zs. at_keys (drop i ks) zs n) (dropped ps i g) ∙ (no_places (drop i ks) n ∙ sym (ap (λ zs. at_keys (drop j ks) zs n) (dropped ps j h) ∙ no_places (drop j ks) n))) z

-- the places of names stand beside their keys
pub keys_are : (f : Scope ItemColumn) (ks ns : List ℕ) → at_keys ks (map f ns) ≡ paired f nowhere ks ns
keys_are f ks ns = λ i n. each ks ns n i
  where
    each : (ks ns : List ℕ) (n : ℕ) → at_keys ks (map f ns) n ≡ paired f nowhere ks ns n
    each [] ns n = no_keys (map f ns) n
    each (k ∷ ks) [] n = no_places (k ∷ ks) n
    each (k ∷ ks) (m ∷ ns) n = at_key k ks (f m) (map f ns) n ∙ ap (λ p. if nat_eq k n then f m else p) (each ks ns n)

-- ---- the columns of a row

behind_is : (carried : List Ty) (column : ℕ) → behind carried column ≡ length carried + column
behind_is [] column = omega arith
behind_is (t ∷ ts) column = let h = behind_is ts column in omega (arith, h)

pub place_behind : (carried : List Ty) (first place column : ℕ) → first ≡ length carried + 2 → place ≡ first + column
    → record { depth = 0; item = 0; column = place } ≡ carried_place carried column
place_behind carried first place column h g =
    let counted : place ≡ suc (suc (behind carried column)) = omega (arith, h, g, behind_is carried column) in
    ap (λ k. record { depth = 0; item = 0; column = k }) counted

-- ---- what stands beside a key

none_beside : (names : List ℕ) (n : ℕ) → beside [] names n ≡ None
unfolding beside
none_beside names n = refl

no_names : (keys : List ℕ) (n : ℕ) → beside keys [] n ≡ None
unfolding beside
no_names [] n = refl
no_names (k ∷ keys) n = refl

beside_first : (k : ℕ) (keys : List ℕ) (m : ℕ) (names : List ℕ) (n : ℕ) → beside (k ∷ keys) (m ∷ names) n ≡ (if nat_eq k n then Some m else beside keys names n)
unfolding beside
beside_first k keys m names n = refl

pub beside_short : (keys names : List ℕ) (n i : ℕ) → length names ≤ i → beside (drop i keys) (drop i names) n ≡ None
beside_short keys names n i h = ap (λ zs. beside (drop i keys) zs n) (dropped names i h) ∙ no_names (drop i keys) n

pub beside_end : (keys names : List ℕ) (n i : ℕ) → length keys ≤ i → beside (drop i keys) (drop i names) n ≡ None
beside_end keys names n i h = ap (λ zs. beside zs (drop i names) n) (dropped keys i h) ∙ none_beside (drop i names) n

at_place : (xs : List ℕ) (i : ℕ) → i < length xs → drop i xs ≡ get_or xs i 0 ∷ drop (i + 1) xs
at_place [] i h = absurd (omega (arith, h))
at_place (x ∷ xs) zero h = refl
at_place (x ∷ xs) (suc i) h =
    let more : suc i + 1 ≡ suc (i + 1) = omega arith in
    at_place xs i (omega (arith, h)) ∙ ap (λ n. get_or xs i 0 ∷ drop n (x ∷ xs)) (sym more)

pub beside_step : (keys names : List ℕ) (n i : ℕ) → i < length keys → i < length names
    → beside (drop i keys) (drop i names) n ≡ (if nat_eq (get_or keys i 0) n then Some (get_or names i 0) else beside (drop (i + 1) keys) (drop (i + 1) names) n)
beside_step keys names n i g h =
    (λ z. beside (at_place keys i g z) (at_place names i h z) n) ∙ beside_first (get_or keys i 0) (drop (i + 1) keys) (get_or names i 0) (drop (i + 1) names) n

pub ruleset beside_rules = (beside_short, beside_end, beside_step)

-- ---- the places of a label

pub found_or : (keys : List (List ℕ)) (l : ℕ) (k : List ℕ) → slice_get keys l ≡ Some k → get_or keys l [] ≡ k
found_or [] l k h = absurd (cc)
found_or (x ∷ keys) zero k h = same_Some x k h
found_or (x ∷ keys) (suc l) k h = found_or keys l k h

pub missed_or : (keys : List (List ℕ)) (l : ℕ) → slice_get keys l ≡ None → get_or keys l [] ≡ []
missed_or [] l h = refl
missed_or (x ∷ keys) zero h = absurd (cc)
missed_or (x ∷ keys) (suc l) h = missed_or keys l h

pub ruleset places_rules = (found_or, missed_or)
