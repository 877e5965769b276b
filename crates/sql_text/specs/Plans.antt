-- How a reader descends: what it does to read a tree of a sort, by what stands next. T says what
-- the trees of each sort are.
use Rattle.std.specs.Prelude.{
  ◌≡◌,
  Bool,
  true,
  false,
  List,
  [],
  ◌∷◌,
  Option,
  Some,
  None,
  Result,
  Ok,
  Err,
}
use Rattle.away_grammar.specs.declared.grammar.Mark.{Mark}
use Rattle.away_grammar.specs.Terminals.{Terminal, mark}
use Rattle.sql_text.specs.declared.refusal.Refusal.{Refusal}
use Rattle.sql_text.specs.declared.refusal.Refusal.TheVariants.{NoTree, NoMemory}

pub data Plan {S : Type 0} (T : S → Type 0) (n : S) : Type 0 where
  done : T n → Plan T n
  fail : Plan T n
  -- by what stands next, which is taken
  take : (Option Terminal → Plan T n) → Plan T n
  -- by whether the mark stands next, which is then taken
  eat : Mark → Plan T n → Plan T n → Plan T n
  -- by a test of what stands there
  look : (List Terminal → Bool) → Plan T n → Plan T n → Plan T n
  -- a tree of a sort, and then by it
  read : (s : S) → (T s → Plan T n) → Plan T n

abbrev pub first : List Terminal → Option Terminal
first [] = None
first (s ∷ ts) = Some s

abbrev pub tail : List Terminal → List Terminal
tail [] = []
tail (s ∷ ts) = ts

-- the mark stands first
abbrev pub Begins : List Terminal → Mark → Type 0
Begins ts m = (rest : List Terminal) × (ts ≡ mark m ∷ rest)

-- ---- plans made of these

abbrev pub is_some : {A : Type 0} → Option A → Bool
is_some None = false
is_some (Some x) = true

-- by what was found, or no tree
abbrev pub with : {S : Type 0} {T : S → Type 0} {n : S} {A : Type 0} → (A → Plan T n) → Option A → Plan T n
with f None = fail
with f (Some x) = f x

-- what stands next has to be of a kind; it is taken
abbrev pub want : {S : Type 0} {T : S → Type 0} {n : S} {A : Type 0} → (Option Terminal → Option A) → (A → Plan T n) → Plan T n
want kind f = take (λ s. with f (kind s))

-- what stands next is taken where it is of a kind
abbrev pub perhaps_a : {S : Type 0} {T : S → Type 0} {n : S} {A : Type 0} → (Option Terminal → Option A) → (A → Plan T n) → Plan T n → Plan T n
perhaps_a kind f other = look (λ ts. is_some (kind (first ts))) (want kind f) other

-- the mark, or no tree
abbrev pub expect : {S : Type 0} {T : S → Type 0} {n : S} → Mark → Plan T n → Plan T n
expect m p = eat m p fail

-- ---- what comes of a plan

-- A plan, the terminals, and what comes of it: a tree and the terminals that are left, or none.
pub data Runs {S : Type 0} (T : S → Type 0) (plan : (n : S) → Plan T n) : (n : S) → Plan T n → List Terminal → Option (T n × List Terminal) → Type 0 where
  ends : {n : S} {x : T n} {ts : List Terminal} → Runs T plan n (done x) ts (Some (x, ts))
  fails : {n : S} {ts : List Terminal} → Runs T plan n fail ts None
  takes : {n : S} {f : Option Terminal → Plan T n} {ts : List Terminal} {o : Option (T n × List Terminal)}
      → Runs T plan n (f (first ts)) (tail ts) o → Runs T plan n (take f) ts o
  eats : {n : S} {m : Mark} {p q : Plan T n} {ts : List Terminal} {o : Option (T n × List Terminal)} → Runs T plan n p ts o
      → Runs T plan n (eat m p q) (mark m ∷ ts) o
  leaves : {n : S} {m : Mark} {p q : Plan T n} {ts : List Terminal} {o : Option (T n × List Terminal)} → ¬ (Begins ts m)
      → Runs T plan n q ts o → Runs T plan n (eat m p q) ts o
  sees : {n : S} {f : List Terminal → Bool} {p q : Plan T n} {ts : List Terminal} {o : Option (T n × List Terminal)} → f ts ≡ true
      → Runs T plan n p ts o → Runs T plan n (look f p q) ts o
  misses : {n : S} {f : List Terminal → Bool} {p q : Plan T n} {ts : List Terminal} {o : Option (T n × List Terminal)}
      → f ts ≡ false → Runs T plan n q ts o → Runs T plan n (look f p q) ts o
  reads : {n s : S} {f : T s → Plan T n} {ts middle : List Terminal} {x : T s} {o : Option (T n × List Terminal)}
      → Runs T plan s (plan s) ts (Some (x, middle)) → Runs T plan n (f x) middle o → Runs T plan n (read s f) ts o
  breaks : {n s : S} {f : T s → Plan T n} {ts : List Terminal} → Runs T plan s (plan s) ts None → Runs T plan n (read s f) ts None

-- What the plan gives is the answer, and what is left.
pub data Gives {S : Type 0} (T : S → Type 0) (plan : (n : S) → Plan T n) : (n : S) → Plan T n → List Terminal → Result (T n) Refusal → List Terminal
    → Type 0 where
  tree : {n : S} {p : Plan T n} {old new : List Terminal} {x : T n} → Runs T plan n p old (Some (x, new)) → Gives T plan n p old (Ok x) new
  no_tree : {n : S} {p : Plan T n} {old new : List Terminal} → Runs T plan n p old None → Gives T plan n p old (Err NoTree) new
  no_memory : {n : S} {p : Plan T n} {old new : List Terminal} → Gives T plan n p old (Err NoMemory) new
