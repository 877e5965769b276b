-- Steps of a run that a finding in the terminals decides.
use Rattle.std.proofs.Common.{◌≡◌, ℕ, Bool, true, false, List, ◌∷◌, Option, Some, None, sym, ap, subst}
use Rattle.std.specs.Prelude.{if◌then◌else◌}
use Rattle.away_grammar.specs.declared.grammar.Mark.{Mark}
use Rattle.away_grammar.specs.Terminals.{Terminal, mark, name}
use Rattle.away_grammar.specs.Grammar.{Sort, Tree, Stops}
use Rattle.sql_text.specs.Plans.{Plan, first, tail, Begins, with, want, perhaps_a, is_some, Runs, takes, sees, misses}
use Rattle.sql_text.specs.Descent.{plan}

-- The plan of the sort gives the tree, where what is left can't continue the sort.
abbrev pub Given : (n : Sort) → List Terminal → Tree n → List Terminal → Type 0
Given n ts x rest = Stops n rest → Runs Tree plan n (plan n) ts (Some (x, rest))

-- the plan goes on by what was found
pub decides : {n : Sort} {A : Type 0} (f : A → Plan Tree n) (found : Option A) {ts : List Terminal} {o : Option (Tree n × List Terminal)} {x : A}
    → found ≡ Some x → Runs Tree plan n (f x) ts o → Runs Tree plan n (with f found) ts o
decides {n = n} f found {ts = ts} {o = o} e d = subst (λ found. Runs Tree plan n (with f found) ts o) (sym e) d

-- what was wanted stands next
pub wants : {n : Sort} {A : Type 0} (kind : Option Terminal → Option A) (f : A → Plan Tree n) {ts : List Terminal} {o : Option (Tree n × List Terminal)} {x : A}
    → kind (first ts) ≡ Some x → Runs Tree plan n (f x) (tail ts) o → Runs Tree plan n (want kind f) ts o
wants kind f e d = takes (decides f _ e d)

pub finds : {n : Sort} {A : Type 0} (kind : Option Terminal → Option A) (f : A → Plan Tree n) {q : Plan Tree n} {ts : List Terminal} {o : Option (Tree n × List Terminal)} {x : A}
    → kind (first ts) ≡ Some x → Runs Tree plan n (f x) (tail ts) o → Runs Tree plan n (perhaps_a kind f q) ts o
finds kind f e d = sees (ap is_some e) (wants kind f e d)

pub overlooks : {n : Sort} {A : Type 0} (kind : Option Terminal → Option A) (f : A → Plan Tree n) {q : Plan Tree n} {ts : List Terminal} {o : Option (Tree n × List Terminal)}
    → kind (first ts) ≡ None → Runs Tree plan n q ts o → Runs Tree plan n (perhaps_a kind f q) ts o
overlooks kind f e d = misses (ap is_some e) d

-- the plan is the first one of two
pub chosen : {n : Sort} {b : Bool} {p : Plan Tree n} (q : Plan Tree n) {ts : List Terminal} {o : Option (Tree n × List Terminal)} → b ≡ true → Runs Tree plan n p ts o → Runs Tree plan n (if b then p else q) ts o
chosen {n = n} {p = p} q {ts = ts} {o = o} e d = subst (λ b. Runs Tree plan n (if b then p else q) ts o) (sym e) d

-- the plan is the second one of two
pub rejected : {n : Sort} {b : Bool} (p : Plan Tree n) {q : Plan Tree n} {ts : List Terminal} {o : Option (Tree n × List Terminal)} → b ≡ false → Runs Tree plan n q ts o → Runs Tree plan n (if b then p else q) ts o
rejected {n = n} p {q = q} {ts = ts} {o = o} e d = subst (λ b. Runs Tree plan n (if b then p else q) ts o) (sym e) d

-- the plan is another one
pub planned : {n : Sort} {p q : Plan Tree n} {ts : List Terminal} {o : Option (Tree n × List Terminal)} → p ≡ q → Runs Tree plan n q ts o → Runs Tree plan n p ts o
planned {n = n} {ts = ts} {o = o} e d = subst (λ p. Runs Tree plan n p ts o) (sym e) d

-- ---- what stands next is no such mark

pub other_mark : {ts : List Terminal} {word other : Mark} → ¬ (word ≡ other) → ¬ (Begins (mark word ∷ ts) other)
other_mark h b = h (cc (b.1))

pub other_terminal : {ts : List Terminal} {n : List ℕ} {other : Mark} → ¬ (Begins (name n ∷ ts) other)
other_terminal b = absurd (cc (b.1))
