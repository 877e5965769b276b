-- A φ that isn't trivial joins two names, and in a named form they come from two blocks that lead there.
use Rattle.std.proofs.Common.{◌≡◌, ◌≢◌, ◌⊎◌, ℕ, zero, suc, ◌≤◌, Bool, true, false, List, [], ◌∷◌, slice_get, Some, nat_eq, refl, sym, ap, ◌∙◌, subst, inl, inr, arith}
use Rattle.std.specs.List.{count_by}
use Rattle.std.proofs.lemmas.Bool.{eqb-true, eq-eqb, eqb-false}
use Rattle.block_forms.specs.declared.forms.Phi.{Phi}
use Rattle.block_forms.specs.declared.forms.Goto.{Goto}
use Rattle.block_forms.specs.declared.forms.SsaBlock.{SsaBlock}
use Rattle.block_forms.specs.declared.forms.Ssa.{Ssa}
use Rattle.block_forms.specs.Forms.{Pairs}
use Rattle.block_forms.specs.Lowered.{one_of}
use Rattle.block_forms.specs.Named.{Named}
use Rattle.block_forms.specs.Places.{In}
use Rattle.block_forms.specs.Trivial.{IsTrivial, HasNoTrivial}
use Rattle.ssa_check.specs.Definitions.{goes_to, HasOneForEach}
use Rattle.ssa_check.specs.TrivialPhis.{phi_of, JoinsTwoNames, JoinsTwoWays}
use Rattle.ssa_check.proofs.OneDefinition.{count_by-yes, count_by-less}
use Rattle.ssa_check.proofs.Predecessors.{operands_are_predecessors}

-- ---- examples

-- one operand, whose name is the φ's own or m
pub one_trivial : (name m : ℕ) (p : ℕ × ℕ) → (p.1 ≡ name) ⊎ (p.1 ≡ m) → IsTrivial (phi_of name (p ∷ []))
one_trivial name m p e = (m, λ o i. by_place o i)
  where
    by_place : (o : ℕ × ℕ) → In (p ∷ []) o → (o.1 ≡ name) ⊎ (o.1 ≡ m)
    by_place o (inl q) = subst (λ (x : ℕ × ℕ). (x.1 ≡ name) ⊎ (x.1 ≡ m)) q e
    by_place o (inr i) = absurd i

-- two operands, the name of each of which is the φ's own or m
pub two_trivial : (name m : ℕ) (p q : ℕ × ℕ) → (p.1 ≡ name) ⊎ (p.1 ≡ m) → (q.1 ≡ name) ⊎ (q.1 ≡ m) → IsTrivial (phi_of name (p ∷ q ∷ []))
two_trivial name m p q e f = (m, λ o i. by_place o i)
  where
    by_place : (o : ℕ × ℕ) → In (p ∷ q ∷ []) o → (o.1 ≡ name) ⊎ (o.1 ≡ m)
    by_place o (inl r) = subst (λ (x : ℕ × ℕ). (x.1 ≡ name) ⊎ (x.1 ≡ m)) r e
    by_place o (inr (inl r)) = subst (λ (x : ℕ × ℕ). (x.1 ≡ name) ⊎ (x.1 ≡ m)) r f
    by_place o (inr (inr i)) = absurd i

-- ---- what joins two names isn't trivial

one_name : (name m n k : ℕ) → (m ≡ name) ⊎ (m ≡ k) → (n ≡ name) ⊎ (n ≡ k) → m ≢ n → m ≢ name → n ≢ name → ⊥
one_name name m n k (inl e) f differ other other' = other e
one_name name m n k (inr e) (inl f) differ other other' = other' f
one_name name m n k (inr e) (inr f) differ other other' = differ (e ∙ sym f)

pub joined_not_trivial : (φ : Phi) → JoinsTwoNames φ → IsTrivial φ → ⊥
joined_not_trivial φ j t =
    one_name φ.name j.first.1 j.second.1 t.0 (t.1 j.first j.first_there) (t.1 j.second j.second_there) j.differ j.first_other j.second_other

-- ---- what isn't trivial joins two names

-- an operand whose name is neither of two
record Other (os : Pairs) (m n : ℕ) : Type 0 where
  pair : ℕ × ℕ
  there : In os pair
  not_first : pair.1 ≢ m
  not_second : pair.1 ≢ n

abbrev AreTwo : Pairs → ℕ → ℕ → Type 0
AreTwo os m n = (o : ℕ × ℕ) → In os o → (o.1 ≡ m) ⊎ (o.1 ≡ n)

further : (p : ℕ × ℕ) (os : Pairs) (m n : ℕ) → (p.1 ≡ m) ⊎ (p.1 ≡ n) → AreTwo os m n → AreTwo (p ∷ os) m n
further p os m n e are o (inl q) = subst (λ (x : ℕ × ℕ). (x.1 ≡ m) ⊎ (x.1 ≡ n)) q e
further p os m n e are o (inr i) = are o i

-- some operand's name is neither of two names, or each is one of them
sought : (os : Pairs) (m n : ℕ) → Other os m n ⊎ AreTwo os m n
sought [] m n = inr (λ o i. absurd i)
sought (p ∷ ps) m n = by_names (nat_eq p.1 m) refl (nat_eq p.1 n) refl (sought ps m n)
  where
    by_names : (x : Bool) → nat_eq p.1 m ≡ x → (y : Bool) → nat_eq p.1 n ≡ y → Other ps m n ⊎ AreTwo ps m n
        → Other (p ∷ ps) m n ⊎ AreTwo (p ∷ ps) m n
    by_names x e y f (inl o) = inl (record { pair = o.pair; there = inr o.there; not_first = o.not_first; not_second = o.not_second })
    by_names true e y f (inr are) = inr (further p ps m n (inl (eqb-true p.1 m e)) are)
    by_names false e true f (inr are) = inr (further p ps m n (inr (eqb-true p.1 n f)) are)
    by_names false e false f (inr are) =
        inl (record { pair = p; there = inl refl; not_first = eqb-false p.1 m e; not_second = eqb-false p.1 n f })

pub not_trivial_joins : (φ : Phi) → (IsTrivial φ → ⊥) → JoinsTwoNames φ
not_trivial_joins φ other = by_first (sought φ.operands φ.name φ.name)
  where
    by_second : (o : Other φ.operands φ.name φ.name) → Other φ.operands φ.name o.pair.1 ⊎ AreTwo φ.operands φ.name o.pair.1 → JoinsTwoNames φ
    by_second o (inr are) = absurd (other (o.pair.1, are))
    by_second o (inl q) =
        record {
          first = o.pair;
          second = q.pair;
          first_there = o.there;
          second_there = q.there;
          differ = λ e. q.not_second (sym e);
          first_other = o.not_first;
          second_other = q.not_first;
        }

    by_first : Other φ.operands φ.name φ.name ⊎ AreTwo φ.operands φ.name φ.name → JoinsTwoNames φ
    by_first (inr are) = absurd (other (φ.name, are))
    by_first (inl o) = by_second o (sought φ.operands φ.name o.pair.1)

-- ---- the blocks that they come from

abbrev from : ℕ → ℕ × ℕ → Bool
from b p = nat_eq p.0 b

counts_once : (b : ℕ) (os : Pairs) (o : ℕ × ℕ) → In os o → o.0 ≡ b → 1 ≤ count_by (from b) os
counts_once b [] o i e = absurd i
counts_once b (p ∷ ps) o (inl q) e = omega (arith, count_by-yes (from b) p ps (eq-eqb p.0 b (ap (λ (x : ℕ × ℕ). x.0) q ∙ e)))
counts_once b (p ∷ ps) o (inr i) e = omega (arith, counts_once b ps o i e, count_by-less (from b) p ps)

counts_twice : (b : ℕ) (os : Pairs) (o q : ℕ × ℕ) → In os o → In os q → o.1 ≢ q.1 → o.0 ≡ b → q.0 ≡ b → 2 ≤ count_by (from b) os
counts_twice b [] o q i j differ e f = absurd i
counts_twice b (p ∷ ps) o q (inl r) (inl s) differ e f = absurd (differ (ap (λ (x : ℕ × ℕ). x.1) (sym r ∙ s)))
counts_twice b (p ∷ ps) o q (inl r) (inr j) differ e f =
    omega (arith, count_by-yes (from b) p ps (eq-eqb p.0 b (ap (λ (x : ℕ × ℕ). x.0) r ∙ e)), counts_once b ps q j f)
counts_twice b (p ∷ ps) o q (inr i) (inl r) differ e f =
    omega (arith, count_by-yes (from b) p ps (eq-eqb p.0 b (ap (λ (x : ℕ × ℕ). x.0) r ∙ f)), counts_once b ps o i e)
counts_twice b (p ∷ ps) o q (inr i) (inr j) differ e f =
    omega (arith, counts_twice b ps o q i j differ e f, count_by-less (from b) p ps)

one_at_most : (t : Bool) → one_of t ≤ 1
one_at_most true = omega arith
one_at_most false = omega arith

is_one : (t : Bool) → 1 ≤ one_of t → t ≡ true
is_one true some = refl
is_one false some = absurd (omega (arith, some))

module _ (z : Ssa) (c : ℕ) (φ : Phi) (each : HasOneForEach z c φ) where
  leads_here : (o : ℕ × ℕ) → In φ.operands o → goes_to (slice_get z.blocks o.0) c ≡ true
  leads_here o i =
      is_one (goes_to (slice_get z.blocks o.0) c) (omega (arith, each o.0, counts_once o.0 φ.operands o i refl))

  pub joins_two_ways : JoinsTwoNames φ → JoinsTwoWays z c φ
  joins_two_ways j =
      record {
        names = j;
        blocks_differ = λ e. absurd (omega (
          arith,
          each j.second.0,
          one_at_most (goes_to (slice_get z.blocks j.second.0) c),
          counts_twice j.second.0 φ.operands j.first j.second j.first_there j.second_there j.differ e refl,
        ));
        first_leads = leads_here j.first j.first_there;
        second_leads = leads_here j.second j.second_there;
      }

-- an element at a place
pub stands_in : {X : Type 0} (xs : List X) (i : ℕ) (x : X) → slice_get xs i ≡ Some x → In xs x
stands_in [] i x e = absurd (cc)
stands_in (y ∷ ys) zero x e = inl (let same : y ≡ x = cc in same)
stands_in (y ∷ ys) (suc i) x e = inr (stands_in ys i x e)

pub phi_joins : (slots params : ℕ) (g : Goto) (z : Ssa) → Named slots params g z → HasNoTrivial z → (c : ℕ) (y : SsaBlock)
    → slice_get z.blocks c ≡ Some y → (i : ℕ) (φ : Phi) → slice_get y.phis i ≡ Some φ → JoinsTwoWays z c φ
phi_joins slots params g z named neat c y there i φ at =
    let each = operands_are_predecessors slots params g z named c φ ((named.operands c y there).each i φ at) in
    joins_two_ways z c φ each (not_trivial_joins φ (neat c y φ there (stands_in y.phis i φ at)))
