-- Edges by the test whether an end leads to a block.
use Rattle.std.proofs.Common.{◌≡◌, ◌⊎◌, ℕ, Bool, true, false, ◌||◌, List, slice_get, Option, Some, None, nat_eq, refl, ap, ◌∙◌, inl, inr}
use Rattle.block_forms.specs.Lowered.{end_leads}
use Rattle.block_forms.specs.Named.{leads}
use Rattle.ssa_build.specs.Forms.{Block, Branch, End, Fail, Jump, Return}
use Rattle.block_graph.proofs.Lists.{same_number, tests_same}
use Rattle.ssa_build.proofs.Naming.{Edge, Leads}

or_true : (a b : Bool) → (a || b) ≡ true → (a ≡ true) ⊎ (b ≡ true)
or_true true b e = inl refl
or_true false b e = inr e

or_left : (a b : Bool) → a ≡ true → (a || b) ≡ true
or_left true b e = refl
or_left false b e = absurd (let no : ⊥ = cc in no)

or_right : (a b : Bool) → b ≡ true → (a || b) ≡ true
or_right true b e = refl
or_right false b e = e

leads_from_test : (e : End) (c : ℕ) → end_leads e c ≡ true → Leads e c
leads_from_test (Jump b) c h = same_number b c h
leads_from_test (Branch t y n) c h = elim (or_true (nat_eq y c) (nat_eq n c) h) [ inl q ↦ inl (same_number y c q) | inr q ↦ inr (same_number n c q) ]
leads_from_test (Return t) c h = let no : ⊥ = cc in no
leads_from_test (Fail k) c h = let no : ⊥ = cc in no

test_from_leads : (e : End) (c : ℕ) → Leads e c → end_leads e c ≡ true
test_from_leads (Jump b) c h = tests_same b c h
test_from_leads (Branch t y n) c (inl q) = or_left (nat_eq y c) (nat_eq n c) (tests_same y c q)
test_from_leads (Branch t y n) c (inr q) = or_right (nat_eq y c) (nat_eq n c) (tests_same n c q)
test_from_leads (Return t) c h = absurd h
test_from_leads (Fail k) c h = absurd h

pub edge_from_leads : (g : List Block) (b c : ℕ) → leads (slice_get g b) c ≡ true → Edge g b c
edge_from_leads g b c h = go (slice_get g b) refl h
  where
    go : (o : Option Block) → slice_get g b ≡ o → leads o c ≡ true → Edge g b c
    go None e q = absurd (let no : ⊥ = cc (q) in no)
    go (Some x) e q = (x, e, leads_from_test x.end c q)

pub leads_from_edge : (g : List Block) (b c : ℕ) → Edge g b c → leads (slice_get g b) c ≡ true
leads_from_edge g b c h = ap (λ o. leads o c) h.1 ∙ test_from_leads h.0.end c h.2
