-- What comes of a plan, by computation.
use Rattle.std.proofs.Common.{◌≡◌, ℕ, zero, suc, Bool, true, false, List, [], ◌∷◌, Option, Some, None, refl, sym, subst}
use Rattle.std.specs.Prelude.{if◌then◌else◌}
use denote.Enum.Bare.{sameb, same_true, same_false}
use Rattle.away_grammar.specs.contracts.grammar.Mark.{the_type}
use Rattle.away_grammar.specs.declared.grammar.Mark.{Mark}
use Rattle.away_grammar.specs.Terminals.{Terminal, mark, name, integer, string, parameter, quote}
use Rattle.sql_text.specs.Plans.{Plan, done, fail, take, eat, look, read, first, tail, Runs, ends, fails, takes, eats, leaves, sees, misses, reads, breaks}
use Rattle.std.proofs.lemmas.Option.{same_Some}

-- what comes of it, or nothing where too many steps were needed
abbrev pub Trial : {S : Type 0} (T : S → Type 0) → S → Type 0
Trial T n = Option (Option (T n × List Terminal))

abbrev pub going_on : {A B : Type 0} → (A → List Terminal → Option (Option B)) → Option (Option (A × List Terminal)) → Option (Option B)
going_on f None = None
going_on f (Some None) = Some None
going_on f (Some (Some p)) = f p.0 p.1

abbrev pub tried : {S : Type 0} {T : S → Type 0} (plan : (n : S) → Plan T n) → ℕ → (n : S) → Plan T n → List Terminal → Trial T n
tried plan zero n p ts = None
tried plan (suc k) n (done x) ts = Some (Some (x, ts))
tried plan (suc k) n fail ts = Some None
tried plan (suc k) n (take f) ts = tried plan k n (f (first ts)) (tail ts)
tried plan (suc k) n (eat m p q) (mark terminal ∷ ts) = if sameb the_type terminal m then tried plan k n p ts else tried plan k n q (mark terminal ∷ ts)
tried plan (suc k) n (eat m p q) ts = tried plan k n q ts
tried plan (suc k) n (look f p q) ts = if f ts then tried plan k n p ts else tried plan k n q ts
tried plan (suc k) n (read s f) ts = going_on (λ x rest. tried plan k n (f x) rest) (tried plan k s (plan s) ts)

-- ---- what was tried comes of the plan

module _ {S : Type 0} {T : S → Type 0} {plan : (n : S) → Plan T n} where
  eat_tried : {n : S} {p q : Plan T n} {ts : List Terminal} {o : Option (T n × List Terminal)} {a b : Trial T n} (terminal m : Mark) (same : Bool) → sameb the_type terminal m ≡ same
      → (a ≡ Some o → Runs T plan n p ts o) → (b ≡ Some o → Runs T plan n q (mark terminal ∷ ts) o) → (if same then a else b) ≡ Some o → Runs T plan n (eat m p q) (mark terminal ∷ ts) o
  eat_tried {n = n} {p = p} {q = q} {ts = ts} {o = o} terminal m true is first_one second e =
      subst (λ s. Runs T plan n (eat m p q) (mark s ∷ ts) o) (sym (same_true the_type tt terminal m is)) (eats (first_one e))
  eat_tried terminal m false is first_one second e = leaves (λ b. same_false the_type terminal m is (cc (b.1))) (second e)

  look_tried : {n : S} {p q : Plan T n} {ts : List Terminal} {o : Option (T n × List Terminal)} {a b : Trial T n} (f : List Terminal → Bool) (seen : Bool) → f ts ≡ seen
      → (a ≡ Some o → Runs T plan n p ts o) → (b ≡ Some o → Runs T plan n q ts o) → (if seen then a else b) ≡ Some o → Runs T plan n (look f p q) ts o
  look_tried f true is first_one second e = sees is (first_one e)
  look_tried f false is first_one second e = misses is (second e)

  read_tried : {n s : S} {ts : List Terminal} {o : Option (T n × List Terminal)} (f : T s → Plan T n) (g : T s → List Terminal → Trial T n) (found : Trial T s)
      → ((r : Option (T s × List Terminal)) → found ≡ Some r → Runs T plan s (plan s) ts r) → ((x : T s) (rest : List Terminal) → g x rest ≡ Some o → Runs T plan n (f x) rest o)
      → going_on g found ≡ Some o → Runs T plan n (read s f) ts o
  read_tried f g None inner later e = absurd (cc e)
  read_tried {n = n} {s = s} {ts = ts} f g (Some None) inner later e = subst (λ o. Runs T plan n (read s f) ts o) (same_Some _ _ e) (breaks (inner None refl))
  read_tried f g (Some (Some p)) inner later e = reads (inner (Some p) refl) (later p.0 p.1 e)

  pub tried_runs : (k : ℕ) (n : S) (p : Plan T n) (ts : List Terminal) (o : Option (T n × List Terminal)) → tried plan k n p ts ≡ Some o → Runs T plan n p ts o
  tried_runs zero n p ts o e = absurd (cc e)
  tried_runs (suc k) n (done x) ts o e = subst (λ o. Runs T plan n (done x) ts o) (same_Some _ _ e) ends
  tried_runs (suc k) n fail ts o e = subst (λ o. Runs T plan n fail ts o) (same_Some _ _ e) fails
  tried_runs (suc k) n (take f) ts o e = takes (tried_runs k n (f (first ts)) (tail ts) o e)
  tried_runs (suc k) n (eat m p q) (mark terminal ∷ ts) o e = eat_tried terminal m (sameb the_type terminal m) refl (tried_runs k n p ts o) (tried_runs k n q (mark terminal ∷ ts) o) e
  tried_runs (suc k) n (eat m p q) [] o e = leaves (λ b. absurd (cc (b.1))) (tried_runs k n q [] o e)
  tried_runs (suc k) n (eat m p q) (name z ∷ ts) o e = leaves (λ b. absurd (cc (b.1))) (tried_runs k n q (name z ∷ ts) o e)
  tried_runs (suc k) n (eat m p q) (integer i ∷ ts) o e = leaves (λ b. absurd (cc (b.1))) (tried_runs k n q (integer i ∷ ts) o e)
  tried_runs (suc k) n (eat m p q) (string z ∷ ts) o e = leaves (λ b. absurd (cc (b.1))) (tried_runs k n q (string z ∷ ts) o e)
  tried_runs (suc k) n (eat m p q) (parameter i ∷ ts) o e = leaves (λ b. absurd (cc (b.1))) (tried_runs k n q (parameter i ∷ ts) o e)
  tried_runs (suc k) n (eat m p q) (quote z ∷ ts) o e = leaves (λ b. absurd (cc (b.1))) (tried_runs k n q (quote z ∷ ts) o e)
  tried_runs (suc k) n (look f p q) ts o e = look_tried f (f ts) refl (tried_runs k n p ts o) (tried_runs k n q ts o) e
  tried_runs (suc k) n (read s f) ts o e =
      read_tried f (λ x rest. tried plan k n (f x) rest) (tried plan k s (plan s) ts) (λ r. tried_runs k s (plan s) ts r) (λ x rest. tried_runs k n (f x) rest o) e
