-- Parts that stand in a form and have the blocks from a number on as theirs, each once and in their order.
use Rattle.std.proofs.Common.{◌≡◌, ℕ, zero, suc, ◌+◌, ◌≤◌, ◌<◌, Bool, true, false, List, [], ◌∷◌, ◌++◌, length, Option, Some, None, refl, sym, ap, ◌∙◌, subst, arith}
use Rattle.std.specs.Prelude.{slice_get, nat_eq}
use Rattle.std.proofs.lemmas.Bool.{eqb-true, eq-eqb, ne_eqb}
use Rattle.block_forms.specs.declared.forms.Block.{Block}
use Rattle.block_forms.specs.Patterns.{Part, own, shared, same, never}
use Rattle.block_forms.specs.Lowered.{AllStand, EachOnce, owners, sharers, one_of}
use Rattle.goto_lower.proofs.Standing.{join}

-- so many numbers from one on
abbrev pub upto : ℕ → ℕ → List ℕ
upto start zero = []
upto start (suc m) = start ∷ upto (start + 1) m

upto_append : (start a k : ℕ) → upto start (a + k) ≡ upto start a ++ upto (start + a) k
upto_append start zero k = let e : 0 + k ≡ k = omega arith in let g : start ≡ start + 0 = omega arith in (λ i. upto (g i) (e i))
upto_append start (suc a) k =
    let e : suc a + k ≡ suc (a + k) = omega arith in
    let g : start + 1 + a ≡ start + suc a = omega arith in
    ap (λ m. upto start m) e ∙ ap (λ xs. start ∷ xs) (upto_append (start + 1) a k ∙ ap (λ h. upto (start + 1) a ++ upto h k) g)

-- the blocks of parts, own and shared
abbrev pub theirs : List Part → List ℕ
theirs [] = []
theirs (own b x ∷ ps) = b ∷ theirs ps
theirs (shared b x ∷ ps) = b ∷ theirs ps
theirs (same a b ∷ ps) = theirs ps
theirs (never ∷ ps) = theirs ps

theirs_append : (ps qs : List Part) → theirs (ps ++ qs) ≡ theirs ps ++ theirs qs
theirs_append [] qs = refl
theirs_append (own b x ∷ ps) qs = ap (λ ks. b ∷ ks) (theirs_append ps qs)
theirs_append (shared b x ∷ ps) qs = ap (λ ks. b ∷ ks) (theirs_append ps qs)
theirs_append (same a b ∷ ps) qs = theirs_append ps qs
theirs_append (never ∷ ps) qs = theirs_append ps qs

abbrev pub Fine : List Block → ℕ → ℕ → List Part → Type 0
Fine blocks start many ps = AllStand blocks ps × (theirs ps ≡ upto start many)

module _ (blocks : List Block) where
  pub fine_join : (ps qs : List Part) (start a k : ℕ) → Fine blocks start a ps → Fine blocks (start + a) k qs → Fine blocks start (a + k) (ps ++ qs)
  fine_join ps qs start a k f g = (join blocks ps qs f.0 g.0, theirs_append ps qs ∙ (λ i. f.1 i ++ g.1 i) ∙ sym (upto_append start a k))

  pub fine_own : (b : ℕ) (x : Block) (ps : List Part) (start many : ℕ) → b ≡ start → slice_get blocks b ≡ Some x → Fine blocks (start + 1) many ps → Fine blocks start (1 + many) (own b x ∷ ps)
  fine_own b x ps start many at stands f =
      let e : suc many ≡ 1 + many = omega arith in
      ((stands, f.0), (λ i. at i ∷ f.1 i) ∙ ap (λ m. upto start m) e)

  pub fine_shared : (b : ℕ) (x : Block) (ps : List Part) (start many : ℕ) → b ≡ start → slice_get blocks b ≡ Some x → Fine blocks (start + 1) many ps → Fine blocks start (1 + many) (shared b x ∷ ps)
  fine_shared b x ps start many at stands f =
      let e : suc many ≡ 1 + many = omega arith in
      ((stands, f.0), (λ i. at i ∷ f.1 i) ∙ ap (λ m. upto start m) e)

  pub fine_same : (a b : ℕ) (ps : List Part) (start many : ℕ) → a ≡ b → Fine blocks start many ps → Fine blocks start many (same a b ∷ ps)
  fine_same a b ps start many e f = ((e, f.0), f.1)

  pub fine_many : (ps : List Part) (start a k : ℕ) → a ≡ k → Fine blocks start a ps → Fine blocks start k ps
  fine_many ps start a k e f = subst (λ m. Fine blocks start m ps) e f

-- ---- how often a block is theirs

abbrev times : ℕ → List ℕ → ℕ
times b [] = 0
times b (x ∷ xs) = one_of (nat_eq x b) + times b xs

counted : (b : ℕ) (ps : List Part) → owners b ps + sharers b ps ≡ times b (theirs ps)
counted b [] = refl
counted b (own c x ∷ ps) = omega (arith, counted b ps)
counted b (shared c x ∷ ps) = omega (arith, counted b ps)
counted b (same c d ∷ ps) = counted b ps
counted b (never ∷ ps) = counted b ps

absent : (b start many : ℕ) → b < start → times b (upto start many) ≡ 0
absent b start zero lt = refl
absent b start (suc m) lt =
    let ne : start ≡ b → ⊥ = (λ e. omega arith) in
    (λ i. one_of (ne_eqb start b ne i) + absent b (start + 1) m (omega arith) i)

once : (b start many : ℕ) → start ≤ b → b < start + many → times b (upto start many) ≡ 1
once b start zero le lt = absurd (omega arith)
once b start (suc m) le lt = by (nat_eq start b) refl (λ further. once b (start + 1) m further (omega arith))
  where
    by : (v : Bool) → nat_eq start b ≡ v → (start + 1 ≤ b → times b (upto (start + 1) m) ≡ 1) → one_of v + times b (upto (start + 1) m) ≡ 1
    by true e later = let here : start ≡ b = eqb-true start b e in omega (arith, absent b (start + 1) m (omega arith))
    by false e later =
        let ne : start ≡ b → ⊥ = (λ h. let t : nat_eq start b ≡ true = eq-eqb start b h in absurd (cc)) in
        let further : start + 1 ≤ b = omega (arith, ne) in
        let more : times b (upto (start + 1) m) ≡ 1 = later further in
        omega arith

pub each_once : (blocks : List Block) (ps : List Part) → Fine blocks 0 (length blocks) ps → EachOnce ps blocks
each_once blocks ps f = record {
  once = λ b lt. let one : owners b ps + sharers b ps ≡ 1 = counted b ps ∙ ap (times b) f.1 ∙ once b 0 (length blocks) (omega arith) (omega arith) in omega arith;
  covered = λ b lt. let one : owners b ps + sharers b ps ≡ 1 = counted b ps ∙ ap (times b) f.1 ∙ once b 0 (length blocks) (omega arith) (omega arith) in omega arith;
}
