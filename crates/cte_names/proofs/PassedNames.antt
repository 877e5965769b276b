-- What stands beside a key or a slot is what one of the passed names stands for.
use Rattle.std.proofs.Common.{◌≡◌, refl, sym, subst, ℕ, zero, suc, Bool, true, false, cond, if◌then◌else◌}
use Rattle.std.proofs.Common.{List, [], ◌∷◌, map, length, Option, Some, None, arith}
use Rattle.std.specs.Prelude.{nat_eq, slice_get}
use Rattle.std.proofs.lemmas.Bool.{eqb-false, ne_eqb}
use Rattle.std.proofs.lemmas.Option.{same_Some}
use Rattle.away_trees.specs.declared.queries.Col.{Col}
use Rattle.call_forms.specs.Called.{Among}
use Rattle.call_forms.specs.Scopes.{Scope, paired}
use Rattle.cte_template.specs.Places.{stands, beside}
use Rattle.cte_template.specs.declared.places.ItemColumn.{ItemColumn}
use Rattle.cte_parts.specs.Columns.{column_beside}

-- a name behind the first
among_more : (x : ℕ) (xs : List ℕ) (n : ℕ) → Among xs n → Among (x ∷ xs) n
among_more x xs n h = record { place = suc h.place; there = h.there }

among_first : (x : ℕ) (xs : List ℕ) → Among (x ∷ xs) x
among_first x xs = record { place = 0; there = refl }

-- what is among a list with a first one and isn't the first
among_rest : (x : ℕ) (xs : List ℕ) (n : ℕ) → Among (x ∷ xs) n → nat_eq x n ≡ false → Among xs n
among_rest x xs n h other = by h.place h.there
  where
    by : (i : ℕ) → slice_get (x ∷ xs) i ≡ Some n → Among xs n
    by zero e = absurd (eqb-false x n other (same_Some x n e))
    by (suc i) e = record { place = i; there = e }

pub paired_holds : {A : Type 0} (P : A → Type 0) (f : Scope A) (d : A) (keys names : List ℕ) (n : ℕ) → length names ≡ length keys
    → ((m : ℕ) → Among names m → P (f m))
    → Among keys n → P (paired f d keys names n)
paired_holds P f d [] names n long h among = absurd (let e : None ≡ Some n = among.there in cc)
paired_holds P f d (k ∷ keys) [] n long h among = absurd (omega (arith, long))
paired_holds P f d (k ∷ keys) (m ∷ names) n long h among =
    by (nat_eq k n) refl
    (λ other. paired_holds P f d keys names n (omega (arith, long)) (λ x a. h x (among_more m names x a)) (among_rest k keys n among other))
  where
    by : (b : Bool) → nat_eq k n ≡ b → (nat_eq k n ≡ false → P (paired f d keys names n)) → P (if nat_eq k n then f m else paired f d keys names n)
    by true e rest = subst (λ b. P (if b then f m else paired f d keys names n)) (sym e) (h m (among_first m names))
    by false e rest = subst (λ b. P (if b then f m else paired f d keys names n)) (sym e) (rest e)

pub slot_holds : (P : Col → Type 0) (f : ℕ → Col) (other : Col) (slots names : List ℕ) (i : ℕ) → length names ≡ length slots
    → ((m : ℕ) → Among names m → P (f m))
    → Among slots i → P (column_beside slots (map f names) other i)
unfolding column_beside
slot_holds P f other [] names i long h among = absurd (let e : None ≡ Some i = among.there in cc)
slot_holds P f other (k ∷ slots) [] i long h among = absurd (omega (arith, long))
slot_holds P f other (k ∷ slots) (m ∷ names) i long h among =
    by (nat_eq k i) refl
    (λ apart. slot_holds P f other slots names i (omega (arith, long)) (λ x a. h x (among_more m names x a)) (among_rest k slots i among apart))
  where
    by : (b : Bool) → nat_eq k i ≡ b → (nat_eq k i ≡ false → P (column_beside slots (map f names) other i))
        → P (if nat_eq k i then f m else column_beside slots (map f names) other i)
    by true e rest = subst (λ b. P (if b then f m else column_beside slots (map f names) other i)) (sym e) (h m (among_first m names))
    by false e rest = subst (λ b. P (if b then f m else column_beside slots (map f names) other i)) (sym e) (rest e)

-- a name that is assigned, before the others
pub stands_holds : (P : ItemColumn → Type 0) (n : ℕ) (p : ItemColumn) (places : Scope ItemColumn) (names : List ℕ) → P p → ((m : ℕ) → Among names m → P (places m))
    → (m : ℕ) → Among (n ∷ names) m → P (stands n p places m)
unfolding stands
stands_holds P n p places names new h m among = by (nat_eq m n) refl
  where
    by : (b : Bool) → nat_eq m n ≡ b → P (cond (nat_eq m n) p (places m))
    by true e = subst (λ b. P (cond b p (places m))) (sym e) new
    by false e = subst (λ b. P (cond b p (places m))) (sym e) (h m (among_rest n names m among (turned e)))
      where
        turned : nat_eq m n ≡ false → nat_eq n m ≡ false
        turned e = ne_eqb n m (λ s. eqb-false m n e (sym s))

-- the name beside a key is one of the names
pub beside_holds : (P : Option ℕ → Type 0) (keys names : List ℕ) (i : ℕ) → P None → ((m : ℕ) → Among names m → P (Some m)) → P (beside keys names i)
unfolding beside
beside_holds P [] names i none some = none
beside_holds P (k ∷ keys) [] i none some = none
beside_holds P (k ∷ keys) (m ∷ names) i none some = by (nat_eq k i) refl (beside_holds P keys names i none (λ x a. some x (among_more m names x a)))
  where
    by : (b : Bool) → nat_eq k i ≡ b → P (paired (λ k. Some k) None keys names i) → P (if nat_eq k i then Some m else paired (λ k. Some k) None keys names i)
    by true e rest = subst (λ b. P (if b then Some m else paired (λ k. Some k) None keys names i)) (sym e) (some m (among_first m names))
    by false e rest = subst (λ b. P (if b then Some m else paired (λ k. Some k) None keys names i)) (sym e) rest
