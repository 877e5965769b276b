-- The text that a string spells, by replacing each two quotes with one.
use Rattle.std.proofs.Common.{◌≡◌, ℕ, zero, suc, ◌+◌, ◌-◌, ◌<◌, ◌≤◌, inl, inr, true, false, ◌&&◌, eqb, List, [], ◌∷◌, ◌++◌, length, take, drop, Option, Some, None, refl, sym, ap, ◌∙◌, subst, arith}
use Rattle.std.specs.List.{slice_range}
use Rattle.std.proofs.lemmas.Bool.{cases_Bool}
use Rattle.std.proofs.lemmas.Bool.Decides.{nat_tests}
use Rattle.std.specs.Str.Pattern.{FindsText, LacksTextAt}
use Rattle.std.specs.Str.Replace.{ReplacesMatches}
use Rattle.away_grammar.specs.Terminals.{undoubled, between_quotes}

abbrev pub pair : List ℕ
pair = 39 ∷ 39 ∷ []

pair_is : (b c : ℕ) → (eqb b 39 && eqb c 39) ≡ true → (b ≡ 39) × (c ≡ 39)
pair_is b c h = (grind (arith, nat_tests), grind (arith, nat_tests))

no_pair : (b c : ℕ) (z : List ℕ) → LacksTextAt pair (b ∷ c ∷ z) 0 → (eqb b 39 && eqb c 39) ≡ false
no_pair b c z h = elim (cases_Bool (eqb b 39 && eqb c 39)) [ inl y ↦ (let e = pair_is b c y in absurd (h z (cc (e.0, e.1)))) | inr n ↦ n ]

undoubled_none : (s : List ℕ) → ((i : ℕ) → i ≤ length s → LacksTextAt pair s i) → undoubled s ≡ s
undoubled_none [] h = refl
undoubled_none (b ∷ []) h = refl
undoubled_none (b ∷ c ∷ z) h = rw (no_pair b c z (h 0 (omega arith))) (ap (λ l. b ∷ l) (undoubled_none (c ∷ z) (λ i le. h (suc i) (omega arith))))

undoubled_first : (s : List ℕ) (a : ℕ) → ((i : ℕ) → i < a → LacksTextAt pair s i) → drop a s ≡ 39 ∷ 39 ∷ drop (a + 2) s → undoubled s ≡ take a s ++ 39 ∷ undoubled (drop (a + 2) s)
undoubled_first [] zero h e = absurd (cc)
undoubled_first [] (suc a) h e = absurd (cc)
undoubled_first (b ∷ []) zero h e = absurd (cc)
undoubled_first (b ∷ []) (suc zero) h e = absurd (cc)
undoubled_first (b ∷ []) (suc (suc a)) h e = absurd (cc)
undoubled_first (b ∷ c ∷ z) zero h e =
    let first : b ≡ 39 = cc in
    let second : c ≡ 39 = cc in
    rw (first, second) refl
undoubled_first (b ∷ c ∷ z) (suc a) h e =
    let n : suc a + 2 ≡ suc (a + 2) = omega arith in
    let rest : drop a (c ∷ z) ≡ 39 ∷ 39 ∷ drop (a + 2) (c ∷ z) = rw n at e in
    rw (no_pair b c z (h 0 (omega arith)), n) (ap (λ l. b ∷ l) (undoubled_first (c ∷ z) a (λ i lt. h (suc i) (omega arith)) rest))

pub replaced_is : {P : Type 0} (finds : P → List ℕ → Option (ℕ × ℕ) → Type 0) (keeps : P → P → Type 0) (text : P → List ℕ)
    → ((p : P) (s : List ℕ) (r : Option (ℕ × ℕ)) → finds p s r → FindsText (text p) s r) → ((p q : P) → keeps p q → text q ≡ text p)
    → (n : ℕ) (p : P) → text p ≡ pair → (s out : List ℕ) → ReplacesMatches finds keeps (39 ∷ []) n p s out → out ≡ undoubled s
replaced_is finds keeps text fits same zero p is s out h = h.1 ∙ sym (undoubled_none s (subst (λ t. FindsText t s None) is (fits p s None h.0)))
replaced_is finds keeps text fits same (suc n) p is s out h =
    let found : FindsText pair s (Some (h.0, h.1)) = subst (λ t. FindsText t s (Some (h.0, h.1))) is (fits p s (Some (h.0, h.1)) h.4) in
    let ends : h.1 ≡ h.0 + 2 = found.1.ends in
    let split : drop h.0 s ≡ 39 ∷ 39 ∷ drop (h.0 + 2) s = found.1.split ∙ ap (λ b. 39 ∷ 39 ∷ drop b s) ends in
    elim h.6 [
      | inl w ↦ (
          let rest : h.3 ≡ undoubled (drop (h.0 + 2) s) = replaced_is finds keeps text fits same n h.2 (same p h.2 h.5 ∙ is) (drop h.1 s) h.3 w.1 ∙ ap (λ b. undoubled (drop b s)) ends in
          h.7 ∙ ap (λ l. take h.0 s ++ 39 ∷ l) rest ∙ sym (undoubled_first s h.0 found.0 split))
      | inr w ↦ absurd (let same_end : h.0 ≡ h.1 = w.0 in omega arith)
    ]

pub inside_is : (z : List ℕ) → slice_range z 1 (length z - 1) ≡ between_quotes z
inside_is z = ap (λ n. take n (drop 1 z)) (omega arith)
