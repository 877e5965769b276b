-- What has to hold so that a relation has what a plan gives. `plan_gives` shows that it is enough.
use Rattle.std.proofs.Common.{◌≡◌, ℕ, Bool, true, false, if◌then◌else◌, List, [], ◌∷◌, Option, Some, None, refl, subst}
use Rattle.std.proofs.lemmas.Option.{same_Some}
use Rattle.away_grammar.specs.declared.grammar.Mark.{Mark}
use Rattle.away_grammar.specs.Terminals.{Terminal, mark, name, parameter}
use Rattle.away_values.specs.declared.types.Ty.{Ty}
use Rattle.away_grammar.specs.declared.grammar.Level.{Level}
use Rattle.away_values.specs.declared.operators.ChainOp.{ChainOp}
use Rattle.away_values.specs.declared.operators.CmpOp.{CmpOp}
use Rattle.away_values.specs.declared.operators.IsTest.{IsTest}
use Rattle.away_grammar.specs.Grammar.{type_named, operator_of, comparison_of, test_of}
use Rattle.sql_text.specs.TerminalKinds.{name_in, type_in, parameter_in, operator_in, comparison_in, test_in}
use Rattle.sql_text.specs.Plans.{Plan, done, fail, take, eat, look, read, first, with, Runs, ends, fails, takes, eats, leaves, sees, misses, reads, breaks}

-- At the terminals ts, of which `Known ts` is known, a plan goes on that began at the terminals `begun ts`. Whatever it gives from there is in the relation.
abbrev pub Holds : {S : Type 0} {T : S → Type 0} (D : (n : S) → List Terminal → T n → List Terminal → Type 0) (n : S) → Plan T n → (Known : List Terminal → Type 0) → ((ts : List Terminal) → Known ts → List Terminal) → Type 0
Holds D n (done x) Known begun = (ts : List Terminal) (k : Known ts) → D n (begun ts k) x ts
Holds D n fail Known begun = Unit {0}
Holds D n (take f) Known begun = Holds D n (f None) (λ ts. (ts ≡ []) × Known ts) (λ ts k. begun ts k.1) × ((s : Terminal) → Holds D n (f (Some s)) (λ ts. Known (s ∷ ts)) (λ ts k. begun (s ∷ ts) k))
Holds D n (eat m p q) Known begun = Holds D n p (λ ts. Known (mark m ∷ ts)) (λ ts k. begun (mark m ∷ ts) k) × Holds D n q Known begun
Holds D n (look f p q) Known begun = Holds D n p (λ ts. (f ts ≡ true) × Known ts) (λ ts k. begun ts k.1) × Holds D n q Known begun
Holds {T = T} D n (read s f) Known begun = (x : T s) → Holds D n (f x) (λ rest. (ts : List Terminal) × Known ts × D s ts x rest) (λ rest k. begun k.0 k.1)

-- where a plan begins
abbrev pub Nothing : List Terminal → Type 0
Nothing ts = Unit {0}

abbrev pub here : (ts : List Terminal) → Nothing ts → List Terminal
here ts k = ts

pub plan_gives : {S : Type 0} {T : S → Type 0} {plan : (n : S) → Plan T n} (D : (n : S) → List Terminal → T n → List Terminal → Type 0)
    → ((n : S) → Holds D n (plan n) Nothing here)
    → (n : S) {p : Plan T n} {ts : List Terminal} {o : Option (T n × List Terminal)} (x : T n) (rest : List Terminal) → Runs T plan n p ts o → o ≡ Some (x, rest)
    → (Known : List Terminal → Type 0) (begun : (ts : List Terminal) → Known ts → List Terminal) → Holds D n p Known begun → (k : Known ts) → D n (begun ts k) x rest
plan_gives {T = T} D all n x rest (ends {x = y} {ts = ts}) e Known begun h k =
    let pair : (y, ts) ≡ (x, rest) = same_Some _ _ e in
    subst (λ (p : T n × List Terminal). D n (begun ts k) p.0 p.1) pair (h ts k)
plan_gives D all n x rest fails e Known begun h k = absurd (cc e)
plan_gives D all n x rest (takes {ts = []} d) e Known begun h k = plan_gives D all n x rest d e (λ ts. (ts ≡ []) × Known ts) (λ ts k. begun ts k.1) h.0 (refl, k)
plan_gives D all n x rest (takes {ts = s ∷ ts} d) e Known begun h k = plan_gives D all n x rest d e (λ ts. Known (s ∷ ts)) (λ ts k. begun (s ∷ ts) k) (h.1 s) k
plan_gives D all n x rest (eats {m = m} d) e Known begun h k = plan_gives D all n x rest d e (λ ts. Known (mark m ∷ ts)) (λ ts k. begun (mark m ∷ ts) k) h.0 k
plan_gives D all n x rest (leaves other d) e Known begun h k = plan_gives D all n x rest d e Known begun h.1 k
plan_gives D all n x rest (sees {f = f} seen d) e Known begun h k = plan_gives D all n x rest d e (λ ts. (f ts ≡ true) × Known ts) (λ ts k. begun ts k.1) h.0 (seen, k)
plan_gives D all n x rest (misses seen d) e Known begun h k = plan_gives D all n x rest d e Known begun h.1 k
plan_gives D all n x rest (reads {s = s} {ts = ts} {middle = middle} {x = y} c d) e Known begun h k =
    let inner : D s ts y middle = plan_gives D all s y middle c refl Nothing here (all s) tt in
    plan_gives D all n x rest d e (λ rest. (ts : List Terminal) × Known ts × D s ts y rest) (λ rest k. begun k.0 k.1) (h y) (ts, k, inner)
plan_gives D all n x rest (breaks c) e Known begun h k = absurd (cc e)

-- ---- parts of plans

pub if_holds : {S : Type 0} {T : S → Type 0} (D : (n : S) → List Terminal → T n → List Terminal → Type 0) {n : S} (Known : List Terminal → Type 0) (begun : (ts : List Terminal) → Known ts → List Terminal) (b : Bool) (p q : Plan T n)
    → (b ≡ true → Holds D n p Known begun) → (b ≡ false → Holds D n q Known begun) → Holds D n (if b then p else q) Known begun
if_holds D Known begun true p q first second = first refl
if_holds D Known begun false p q first second = second refl

pub with_holds : {S : Type 0} {T : S → Type 0} (D : (n : S) → List Terminal → T n → List Terminal → Type 0) {n : S} {A : Type 0} (Known : List Terminal → Type 0) (begun : (ts : List Terminal) → Known ts → List Terminal) (o : Option A) (f : A → Plan T n)
    → ((x : A) → o ≡ Some x → Holds D n (f x) Known begun) → Holds D n (with f o) Known begun
with_holds D Known begun None f found = tt
with_holds D Known begun (Some x) f found = found x refl

-- What holds once a terminal of a kind was taken holds once any terminal was taken, since the plan fails at the others.
module _ {S : Type 0} {T : S → Type 0} (D : (n : S) → List Terminal → T n → List Terminal → Type 0) {n : S} (Known : Terminal → List Terminal → Type 0) (begun : (s : Terminal) (ts : List Terminal) → Known s ts → List Terminal) where
  pub name_taken : (f : List ℕ → Plan T n) → ((z : List ℕ) → Holds D n (f z) (Known (name z)) (begun (name z))) → (s : Terminal) → Holds D n (with f (name_in (Some s))) (Known s) (begun s)
  name_taken f found (name z) = found z
  name_taken f found _ = tt

  pub parameter_taken : (f : ℕ → Plan T n) → ((i : ℕ) → Holds D n (f i) (Known (parameter i)) (begun (parameter i))) → (s : Terminal) → Holds D n (with f (parameter_in (Some s))) (Known s) (begun s)
  parameter_taken f found (parameter i) = found i
  parameter_taken f found _ = tt

  pub type_taken : (f : Ty → Plan T n) → ((z : List ℕ) (ty : Ty) → type_named z ≡ Some ty → Holds D n (f ty) (Known (name z)) (begun (name z))) → (s : Terminal) → Holds D n (with f (type_in (Some s))) (Known s) (begun s)
  type_taken f found (name z) = with_holds D (Known (name z)) (begun (name z)) (type_named z) f (found z)
  type_taken f found _ = tt

  pub operator_taken : (level : Level) (f : ChainOp → Plan T n) → ((m : Mark) (o : ChainOp) → operator_of level m ≡ Some o → Holds D n (f o) (Known (mark m)) (begun (mark m))) → (s : Terminal) → Holds D n (with f (operator_in level (Some s))) (Known s) (begun s)
  operator_taken level f found (mark m) = with_holds D (Known (mark m)) (begun (mark m)) (operator_of level m) f (found m)
  operator_taken level f found _ = tt

  pub comparison_taken : (f : CmpOp → Plan T n) → ((m : Mark) (o : CmpOp) → comparison_of m ≡ Some o → Holds D n (f o) (Known (mark m)) (begun (mark m))) → (s : Terminal) → Holds D n (with f (comparison_in (Some s))) (Known s) (begun s)
  comparison_taken f found (mark m) = with_holds D (Known (mark m)) (begun (mark m)) (comparison_of m) f (found m)
  comparison_taken f found _ = tt

  pub test_taken : (f : IsTest → Plan T n) → ((m : Mark) (t : IsTest) → test_of m ≡ Some t → Holds D n (f t) (Known (mark m)) (begun (mark m))) → (s : Terminal) → Holds D n (with f (test_in (Some s))) (Known s) (begun s)
  test_taken f found (mark m) = with_holds D (Known (mark m)) (begun (mark m)) (test_of m) f (found m)
  test_taken f found _ = tt
