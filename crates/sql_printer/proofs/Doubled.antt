-- The text between the quotes of a string, by replacing each quote with two.
use Rattle.std.proofs.Common.{◌≡◌, ℕ, zero, suc, ◌+◌, ◌<◌, ◌≤◌, inl, inr, true, false, eqb, List, [], ◌∷◌, ◌++◌, length, take, drop, Option, Some, None, refl, sym, ap, ◌∙◌, subst, arith, append_assoc}
use Rattle.std.proofs.lemmas.Bool.{cases_Bool}
use Rattle.std.proofs.lemmas.Bool.Decides.{nat_tests}
use Rattle.std.specs.Str.Pattern.{FindsText, LacksTextAt}
use Rattle.std.specs.Str.Replace.{ReplacesMatches}
use Rattle.away_grammar.specs.Spellings.{doubled}

abbrev one : List ℕ
one = 39 ∷ []

quote_is : (b : ℕ) → eqb b 39 ≡ true → b ≡ 39
quote_is b h = grind (arith, nat_tests)

no_quote : (b : ℕ) (z : List ℕ) → LacksTextAt one (b ∷ z) 0 → eqb b 39 ≡ false
no_quote b z h = elim (cases_Bool (eqb b 39)) [ inl y ↦ (let e = quote_is b y in absurd (h z (ap (λ d. d ∷ z) e))) | inr n ↦ n ]

doubled_none : (s : List ℕ) → ((i : ℕ) → i ≤ length s → LacksTextAt one s i) → doubled s ≡ s
doubled_none [] h = refl
doubled_none (b ∷ z) h = rw (no_quote b z (h 0 (omega arith))) (ap (λ l. b ∷ l) (doubled_none z (λ i le. h (suc i) (omega arith))))

doubled_first : (s : List ℕ) (a : ℕ) → ((i : ℕ) → i < a → LacksTextAt one s i) → drop a s ≡ 39 ∷ drop (a + 1) s → doubled s ≡ take a s ++ 39 ∷ 39 ∷ doubled (drop (a + 1) s)
doubled_first [] zero h e = absurd (cc)
doubled_first [] (suc a) h e = absurd (cc)
doubled_first (b ∷ z) zero h e =
    let first : b ≡ 39 = cc in
    rw first refl
doubled_first (b ∷ z) (suc a) h e =
    let n : suc a + 1 ≡ suc (a + 1) = omega arith in
    let rest : drop a z ≡ 39 ∷ drop (a + 1) z = rw n at e in
    rw (no_quote b z (h 0 (omega arith)), n) (ap (λ l. b ∷ l) (doubled_first z a (λ i lt. h (suc i) (omega arith)) rest))

pub requoted_is : {P : Type 0} (finds : P → List ℕ → Option (ℕ × ℕ) → Type 0) (keeps : P → P → Type 0) (text : P → List ℕ)
    → ((p : P) (s : List ℕ) (r : Option (ℕ × ℕ)) → finds p s r → FindsText (text p) s r) → ((p q : P) → keeps p q → text q ≡ text p)
    → (n : ℕ) (p : P) → text p ≡ one → (s out : List ℕ) → ReplacesMatches finds keeps (39 ∷ 39 ∷ []) n p s out → out ≡ doubled s
requoted_is finds keeps text fits same zero p is s out h = h.1 ∙ sym (doubled_none s (subst (λ t. FindsText t s None) is (fits p s None h.0)))
requoted_is finds keeps text fits same (suc n) p is s out h =
    let found : FindsText one s (Some (h.0, h.1)) = subst (λ t. FindsText t s (Some (h.0, h.1))) is (fits p s (Some (h.0, h.1)) h.4) in
    let ends : h.1 ≡ h.0 + 1 = found.1.ends in
    let split : drop h.0 s ≡ 39 ∷ drop (h.0 + 1) s = found.1.split ∙ ap (λ b. 39 ∷ drop b s) ends in
    elim h.6 [
      | inl w ↦ (
          let rest : h.3 ≡ doubled (drop (h.0 + 1) s) = requoted_is finds keeps text fits same n h.2 (same p h.2 h.5 ∙ is) (drop h.1 s) h.3 w.1 ∙ ap (λ b. doubled (drop b s)) ends in
          h.7 ∙ ap (λ l. take h.0 s ++ 39 ∷ 39 ∷ l) rest ∙ sym (doubled_first s h.0 found.0 split))
      | inr w ↦ absurd (let same_end : h.0 ≡ h.1 = w.0 in omega arith)
    ]

pub quotes_assoc : (z d : List ℕ) → ((z ++ 39 ∷ []) ++ d) ++ 39 ∷ [] ≡ z ++ 39 ∷ (d ++ 39 ∷ [])
quotes_assoc z d = simp append_assoc
