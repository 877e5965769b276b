-- A φ has one operand for each predecessor, and the two forms have the same edges.
use Rattle.std.proofs.Common.{◌≡◌, ℕ, zero, suc, ◌+◌, ◌≤◌, Bool, true, false, ◌||◌, cond, List, [], ◌∷◌, slice_get, Option, Some, None, nat_eq, refl, sym, ap, ◌∙◌, arith}
use Rattle.std.specs.List.{count_by}
use Rattle.std.proofs.lemmas.Bool.{eqb-true, eq-eqb}
use Rattle.std.proofs.lemmas.Option.{slice_get_within}
use Rattle.block_forms.specs.declared.forms.End.{End}
use Rattle.block_forms.specs.declared.forms.End.TheVariants.{Jump, Branch, Return, Fail}
use Rattle.block_forms.specs.declared.forms.Block.{Block}
use Rattle.block_forms.specs.declared.forms.Goto.{Goto}
use Rattle.block_forms.specs.declared.forms.Phi.{Phi}
use Rattle.block_forms.specs.declared.forms.SsaBlock.{SsaBlock}
use Rattle.block_forms.specs.declared.forms.Ssa.{Ssa}
use Rattle.block_forms.specs.Forms.{Pairs, at_key}
use Rattle.block_forms.specs.Lowered.{one_of, end_leads}
use Rattle.block_forms.specs.Named.{EndRenamed, exit_map, leads, OperandsOfPredecessors, Named}
use Rattle.block_forms.specs.Places.{Distinct, first_of, IsThere}
use Rattle.block_forms.proofs.Pairs.{no_element}
use Rattle.block_forms.proofs.Keys.{at_key_stands}
use Rattle.ssa_check.specs.Definitions.{goes_to, HasOneForEach}
use Rattle.ssa_check.proofs.OneDefinition.{count_by-cons, counts}

-- ---- edges

pub end_leads_same : (m : Pairs) (e e' : End) (c : ℕ) → EndRenamed m e e' → end_leads e c ≡ end_leads e' c
end_leads_same m (Jump a) (Jump d) c r = ap (λ a. nat_eq a c) r
end_leads_same m (Branch t a b) (Branch u a' b') c r = ap (λ a. nat_eq a c || nat_eq b c) r.1 ∙ ap (λ b. nat_eq a' c || nat_eq b c) r.2
end_leads_same m (Return t) (Return u) c r = refl
end_leads_same m (Fail a) (Fail b) c r = refl
end_leads_same m (Jump a) (Branch u a' b') c r = absurd r
end_leads_same m (Jump a) (Return u) c r = absurd r
end_leads_same m (Jump a) (Fail d) c r = absurd r
end_leads_same m (Branch t a b) (Jump a') c r = absurd r
end_leads_same m (Branch t a b) (Return u) c r = absurd r
end_leads_same m (Branch t a b) (Fail x) c r = absurd r
end_leads_same m (Return t) (Jump a') c r = absurd r
end_leads_same m (Return t) (Branch u a' b') c r = absurd r
end_leads_same m (Return t) (Fail x) c r = absurd r
end_leads_same m (Fail x) (Jump a') c r = absurd r
end_leads_same m (Fail x) (Branch u a' b') c r = absurd r
end_leads_same m (Fail x) (Return u) c r = absurd r

module _ (slots params : ℕ) (g : Goto) (z : Ssa) (named : Named slots params g z) where
  leads_alike : (b c : ℕ) (o : Option Block) (p : Option SsaBlock) → slice_get g.blocks b ≡ o → slice_get z.blocks b ≡ p → leads o c ≡ goes_to p c
  leads_alike b c None None e f = refl
  leads_alike b c None (Some y) e f = absurd (omega (arith, no_element g.blocks b e, slice_get_within z.blocks b y f, named.as_many_blocks))
  leads_alike b c (Some x) None e f = absurd (omega (arith, no_element z.blocks b f, slice_get_within g.blocks b x e, named.as_many_blocks))
  leads_alike b c (Some x) (Some y) e f = end_leads_same (exit_map x y) x.end y.end c (named.blocks b x y e f).end

  pub leads_same : (b c : ℕ) → leads (slice_get g.blocks b) c ≡ goes_to (slice_get z.blocks b) c
  leads_same b c = leads_alike b c (slice_get g.blocks b) (slice_get z.blocks b) refl refl

-- ---- operands

-- a pair with the key, at some place
record Found (m : Pairs) (b : ℕ) : Type 0 where
  place : ℕ
  pair : ℕ × ℕ
  there : slice_get m place ≡ Some pair
  key : nat_eq pair.0 b ≡ true

found : (m : Pairs) (b : ℕ) → 1 ≤ count_by (λ (p : ℕ × ℕ). nat_eq p.0 b) m → Found m b
found [] b some = absurd (omega arith)
found (p ∷ ps) b some = by_key (nat_eq p.0 b) refl (found ps b)
  where
    by_key : (t : Bool) → nat_eq p.0 b ≡ t → (1 ≤ count_by (λ (p : ℕ × ℕ). nat_eq p.0 b) ps → Found ps b) → Found (p ∷ ps) b
    by_key true e further = record { place = 0; pair = p; there = refl; key = e }
    by_key false e further =
        let less = count_by-cons (λ (p : ℕ × ℕ). nat_eq p.0 b) p ps ∙ ap (λ t. cond t 1 0 + count_by (λ (p : ℕ × ℕ). nat_eq p.0 b) ps) e in
        let rest = further (omega (arith, less, some)) in
        record { place = suc rest.place; pair = rest.pair; there = rest.there; key = rest.key }

distinct_rest : (p : ℕ × ℕ) (ps : Pairs) → Distinct first_of (p ∷ ps) → Distinct first_of ps
distinct_rest p ps distinct i x e = record { others = λ j y f less. (distinct (suc i) x e).others (suc j) y f (omega (arith, less)) }

at_most_one : (m : Pairs) (b : ℕ) → Distinct first_of m → count_by (λ (p : ℕ × ℕ). nat_eq p.0 b) m ≤ 1
at_most_one [] b distinct = omega arith
at_most_one (p ∷ ps) b distinct =
    by_key (nat_eq p.0 b) refl (count_by (λ (p : ℕ × ℕ). nat_eq p.0 b) ps) refl (at_most_one ps b (distinct_rest p ps distinct))
  where
    counted : (t : Bool) → nat_eq p.0 b ≡ t
        → count_by (λ (p : ℕ × ℕ). nat_eq p.0 b) (p ∷ ps) ≡ cond t 1 0 + count_by (λ (p : ℕ × ℕ). nat_eq p.0 b) ps
    counted t e = count_by-cons (λ (p : ℕ × ℕ). nat_eq p.0 b) p ps ∙ ap (λ t. cond t 1 0 + count_by (λ (p : ℕ × ℕ). nat_eq p.0 b) ps) e

    by_key : (t : Bool) → nat_eq p.0 b ≡ t → (k : ℕ) → count_by (λ (p : ℕ × ℕ). nat_eq p.0 b) ps ≡ k → count_by (λ (p : ℕ × ℕ). nat_eq p.0 b) ps ≤ 1
        → count_by (λ (p : ℕ × ℕ). nat_eq p.0 b) (p ∷ ps) ≤ 1
    by_key true e zero f few = omega (arith, counted true e, f)
    by_key true e (suc k) f few =
        let other = found ps b (omega (arith, f)) in
        let same : p.0 ≡ other.pair.0 = eqb-true p.0 b e ∙ sym (eqb-true other.pair.0 b other.key) in
        absurd ((distinct (suc other.place) other.pair other.there).others 0 p refl (omega arith) same)
    by_key false e k f few = omega (arith, counted false e, few)

is_there : (o : Option ℕ) → IsThere o → (v : ℕ) × (o ≡ Some v)
is_there None there = absurd there
is_there (Some v) there = (v, refl)

at_least_one : (m : Pairs) (b : ℕ) → IsThere (at_key m b) → 1 ≤ count_by (λ (p : ℕ × ℕ). nat_eq p.0 b) m
at_least_one m b there =
    let v = is_there (at_key m b) there in
    let s = at_key_stands m b v.0 v.1 in
    counts (λ (p : ℕ × ℕ). nat_eq p.0 b) m s.place s.pair s.there (eq-eqb s.pair.0 b s.key)

one_for_each : (blocks : List Block) (c : ℕ) (f : Phi) → OperandsOfPredecessors blocks c f → (b : ℕ)
    → count_by (λ (p : ℕ × ℕ). nat_eq p.0 b) f.operands ≡ one_of (leads (slice_get blocks b) c)
one_for_each blocks c f ok b = by_block (slice_get blocks b) refl
  where
    none : leads (slice_get blocks b) c ≡ false → (k : ℕ) → count_by (λ (p : ℕ × ℕ). nat_eq p.0 b) f.operands ≡ k → k ≡ 0
    none e zero q = refl
    none e (suc k) q =
        let one = found f.operands b (omega (arith, q)) in
        let leads_there = ok.of_predecessors one.place one.pair one.there in
        let same : one.pair.0 ≡ b = eqb-true one.pair.0 b one.key in
        let contrary : true ≡ false = sym leads_there ∙ (ap (λ b. leads (slice_get blocks b) c) same ∙ e) in
        absurd (cc)

    by_leading : (x : Block) → slice_get blocks b ≡ Some x → (t : Bool) → end_leads x.end c ≡ t
        → count_by (λ (p : ℕ × ℕ). nat_eq p.0 b) f.operands ≡ one_of t
    by_leading x e true q = omega (arith, at_most_one f.operands b ok.blocks_differ, at_least_one f.operands b (ok.of_each b x e q))
    by_leading x e false q = none (ap (λ o. leads o c) e ∙ q) (count_by (λ (p : ℕ × ℕ). nat_eq p.0 b) f.operands) refl

    by_block : (o : Option Block) → slice_get blocks b ≡ o → count_by (λ (p : ℕ × ℕ). nat_eq p.0 b) f.operands ≡ one_of (leads o c)
    by_block None e = none (ap (λ o. leads o c) e) (count_by (λ (p : ℕ × ℕ). nat_eq p.0 b) f.operands) refl
    by_block (Some x) e = by_leading x e (end_leads x.end c) refl

pub operands_are_predecessors : (slots params : ℕ) (g : Goto) (z : Ssa) → Named slots params g z → (c : ℕ) (f : Phi)
    → OperandsOfPredecessors g.blocks c f → HasOneForEach z c f
operands_are_predecessors slots params g z named c f ok b = one_for_each g.blocks c f ok b ∙ ap one_of (leads_same slots params g z named b c)
