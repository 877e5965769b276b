-- The names that stand for something are those of the scope.
use Rattle.std.proofs.Common.{◌≡◌, ℕ, zero, suc, Bool, true, false, nat_eq, List, [], ◌∷◌, length, Option, Some, None, refl, sym, ap, ◌∙◌, subst, arith}
use Rattle.std.specs.Prelude.{if◌then◌else◌, slice_get}
use Rattle.std.proofs.lemmas.Bool.{eqb-true, eq-eqb}
use Rattle.std.proofs.lemmas.Option.{same_Some}
use Rattle.block_forms.specs.Places.{Each}
use Rattle.call_forms.specs.Called.{Among}
use Rattle.cte_reads.specs.declared.scope.Ref.{Ref}
use Rattle.cte_reads.specs.declared.scope.Scope as code
use Rattle.cte_reads.specs.References.{lookup, Set, found_behind, found_in, one_more, founds, with_set, names_of}

-- no place of an empty list has a number
none_there : (i n : ℕ) → slice_get {X = ℕ} [] i ≡ Some n → ⊥
none_there zero n e = cc
none_there (suc i) n e = cc

pub lookup_among : {A : Type 0} (keys : List ℕ) (values : List A) (n : ℕ) (v : A) → lookup keys values n ≡ Some v → Among keys n
lookup_among [] values n v e = absurd (cc)
lookup_among (x ∷ keys) [] n v e = absurd (cc)
lookup_among (x ∷ keys) (w ∷ values) n v e = by (lookup_among keys values n v) (nat_eq x n) refl e
  where
    by : (lookup keys values n ≡ Some v → Among keys n) → (b : Bool) → nat_eq x n ≡ b → (if b then Some w else lookup keys values n) ≡ Some v → Among (x ∷ keys) n
    by next true p q = record { place = 0; there = ap Some (eqb-true x n p) }
    by next false p q = let a = next q in record { place = suc a.place; there = a.there }

pub among_found : {A : Type 0} (keys : List ℕ) (values : List A) (n : ℕ) → length values ≡ length keys → Among keys n → lookup keys values n ≡ None → ⊥
among_found [] values n as_many a e = none_there a.place n a.there
among_found (x ∷ keys) [] n as_many a e = absurd (omega arith)
among_found (x ∷ keys) (w ∷ values) n as_many a e = by (among_found keys values n (omega arith)) (nat_eq x n) refl e a.place a.there
  where
    by : (Among keys n → lookup keys values n ≡ None → ⊥) → (b : Bool) → nat_eq x n ≡ b → (if b then Some w else lookup keys values n) ≡ None
        → (p : ℕ) → slice_get (x ∷ keys) p ≡ Some n → ⊥
    by next true p q place t = cc
    by next false p q zero t = let same : nat_eq x n ≡ true = eq-eqb x n (same_Some x n t) in cc
    by next false p q (suc place) t = next (record { place = place; there = t }) q

-- a scope's references, that of the assigned name first
abbrev refs_with : Set → List Ref → List Ref
refs_with None refs = refs
refs_with (Some s) refs = s.1 ∷ refs

module _ (s : code.Scope) where
  abbrev all_refs : List Ref
  all_refs = refs_with s.set s.refs

  found_is : (n : ℕ) → found_in s n ≡ lookup (names_of s) all_refs n
  found_is n = by s.set
    where
      by : (set : Set) → found_behind set (lookup s.names.now s.refs n) n ≡ lookup (with_set set s.names.now) (refs_with set s.refs) n
      by None = refl
      by (Some p) = refl

  pub founds_known : (ns : List ℕ) (rs : List Ref) → founds s ns ≡ Some rs → Each (Among (names_of s)) ns
  founds_known [] rs e i x t = absurd (none_there i x t)
  founds_known (n ∷ ns) rs e i x t = by (λ ss q j t. founds_known ns ss q j x t) (found_in s n) refl (founds s ns) refl e
    where
      at : ((ss : List Ref) → founds s ns ≡ Some ss → (j : ℕ) → slice_get ns j ≡ Some x → Among (names_of s) x) → (r : Ref) (ss : List Ref) → found_in s n ≡ Some r → founds s ns ≡ Some ss → (i : ℕ) → slice_get (n ∷ ns) i ≡ Some x → Among (names_of s) x
      at next r ss p q zero t = subst (Among (names_of s)) (same_Some n x t) (lookup_among (names_of s) all_refs n r (sym (found_is n) ∙ p))
      at next r ss p q (suc i) t = next ss q i t

      by : ((ss : List Ref) → founds s ns ≡ Some ss → (j : ℕ) → slice_get ns j ≡ Some x → Among (names_of s) x)
          → (o : Option Ref) → found_in s n ≡ o → (os : Option (List Ref)) → founds s ns ≡ os → one_more o os ≡ Some rs → Among (names_of s) x
      by next None p os q e = absurd (cc)
      by next (Some r) p None q e = absurd (cc)
      by next (Some r) p (Some ss) q e = at next r ss p q i t

  pub founds_unknown : (ns : List ℕ) → length s.refs ≡ length s.names.now → founds s ns ≡ None → Each (Among (names_of s)) ns → ⊥
  founds_unknown [] as_many e known = cc
  founds_unknown (n ∷ ns) as_many e known = by (λ q. founds_unknown ns as_many q (λ i x t. known (suc i) x t)) (found_in s n) refl (founds s ns) refl e
    where
      as_many_with : (set : Set) → length (refs_with set s.refs) ≡ length (with_set set s.names.now)
      as_many_with None = as_many
      as_many_with (Some p) = ap suc as_many

      by : (founds s ns ≡ None → ⊥) → (o : Option Ref) → found_in s n ≡ o → (os : Option (List Ref)) → founds s ns ≡ os → one_more o os ≡ None → ⊥
      by next None p os q e = among_found (names_of s) all_refs n (as_many_with s.set) (known 0 n refl) (sym (found_is n) ∙ p)
      by next (Some r) p None q e = next q
      by next (Some r) p (Some ss) q e = cc
