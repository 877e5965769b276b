-- What a plan gives is one thing.
use Rattle.std.proofs.Common.{◌≡◌, true, false, List, ◌∷◌, ◌⊎◌, inl, inr, Option, Some, None, refl, ap, subst}
use Rattle.std.proofs.lemmas.Option.{same_Some}
use Rattle.away_grammar.specs.Terminals.{Terminal, mark}
use Rattle.sql_text.specs.Plans.{Plan, done, fail, take, eat, look, read, first, tail, Begins, Runs, ends, fails, takes, eats, leaves, sees, misses, reads, breaks}

abbrev pub Inside : {S : Type 0} (T : S → Type 0) (plan : (n : S) → Plan T n) (n : S) → Plan T n → List Terminal → Option (T n × List Terminal) → Type 0
Inside T plan n (done x) ts o = o ≡ Some (x, ts)
Inside T plan n fail ts o = o ≡ None
Inside T plan n (take f) ts o = Runs T plan n (f (first ts)) (tail ts) o
Inside T plan n (eat m p q) ts o = ((rest : List Terminal) × (ts ≡ mark m ∷ rest) × Runs T plan n p rest o) ⊎ (¬ (Begins ts m) × Runs T plan n q ts o)
Inside T plan n (look f p q) ts o = ((f ts ≡ true) × Runs T plan n p ts o) ⊎ ((f ts ≡ false) × Runs T plan n q ts o)
Inside T plan n (read s f) ts o = ((x : T s) × (middle : List Terminal) × Runs T plan s (plan s) ts (Some (x, middle)) × Runs T plan n (f x) middle o) ⊎ (Runs T plan s (plan s) ts None × (o ≡ None))

pub inside : {S : Type 0} {T : S → Type 0} {plan : (n : S) → Plan T n} {n : S} {p : Plan T n} {ts : List Terminal} {o : Option (T n × List Terminal)} → Runs T plan n p ts o → Inside T plan n p ts o
inside ends = refl
inside fails = refl
inside (takes d) = d
inside (eats {ts = ts} d) = inl (ts, refl, d)
inside (leaves h d) = inr (h, d)
inside (sees h d) = inl (h, d)
inside (misses h d) = inr (h, d)
inside (reads {middle = middle} {x = x} c d) = inl (x, middle, c, d)
inside (breaks c) = inr (c, refl)

pub one : {S : Type 0} {T : S → Type 0} {plan : (n : S) → Plan T n} {n : S} {p : Plan T n} {ts : List Terminal} {a b : Option (T n × List Terminal)} → Runs T plan n p ts a → Runs T plan n p ts b → b ≡ a
one ends w = inside w
one fails w = inside w
one (takes d) w = one d (inside w)
one {T = T} {plan = plan} (eats {n = n} {p = p} {ts = ts} d) w = elim (inside w) [ inl v ↦ one d (let same : v.0 ≡ ts = cc (v.1) in subst (λ r. Runs T plan n p r _) same v.2) | inr v ↦ absurd (v.0 (ts, refl)) ]
one (leaves h d) w = elim (inside w) [ inl v ↦ absurd (h (v.0, v.1)) | inr v ↦ one d v.1 ]
one (sees h d) w = elim (inside w) [ inl v ↦ one d v.1 | inr v ↦ absurd (cc (h, v.0)) ]
one (misses h d) w = elim (inside w) [ inl v ↦ absurd (cc (h, v.0)) | inr v ↦ one d v.1 ]
one {T = T} {plan = plan} (reads {n = n} {s = s} {f = f} {middle = middle} {x = x} c d) w =
    elim (inside w) [
      | inl v ↦ (
          let same : Some (v.0, v.1) ≡ Some (x, middle) = one c v.2 in
          let pair : (v.0, v.1) ≡ (x, middle) = same_Some _ _ same in
          let first_same : v.0 ≡ x = ap (λ p. p.0) pair in
          let rest_same : v.1 ≡ middle = ap (λ p. p.1) pair in
          one d (subst (λ r. Runs T plan n (f x) r _) rest_same (subst (λ y. Runs T plan n (f y) v.1 _) first_same v.3)))
      | inr v ↦ absurd (let same : None ≡ Some (x, middle) = one c v.0 in cc same)
    ]
one (breaks c) w = elim (inside w) [ inl v ↦ absurd (let same : Some (v.0, v.1) ≡ None = one c v.2 in cc same) | inr v ↦ v.1 ]
