-- One step of a plan each.
use Rattle.std.proofs.Common.{◌≡◌, Bool, true, false, List, ◌∷◌, Option, Some, None, Result, Ok, Err, sym, ap, subst}
use Rattle.away_grammar.specs.declared.grammar.Mark.{Mark}
use Rattle.sql_text.specs.declared.refusal.Refusal.{Refusal}
use Rattle.sql_text.specs.declared.refusal.Refusal.TheVariants.{NoTree, NoMemory}
use Rattle.away_grammar.specs.Terminals.{Terminal, mark}
use Rattle.sql_text.specs.CodeTerminals.{Found}
use Rattle.sql_text.specs.Plans.{Plan, done, fail, take, eat, look, read, first, tail, Begins, with, want, perhaps_a, expect, is_some, Runs, ends, fails, takes, eats, leaves, sees, misses, reads, breaks, Gives, tree, no_tree, no_memory}

pub finished : {S : Type 0} {T : S → Type 0} {plan : (n : S) → Plan T n} {n : S} {x : T n} {ts new : List Terminal} → new ≡ ts → Gives T plan n (done x) ts (Ok x) new
finished {T = T} {plan = plan} {n = n} {x = x} {ts = ts} e = subst (λ r. Gives T plan n (done x) ts (Ok x) r) (sym e) (tree ends)

eat_on : {S : Type 0} {T : S → Type 0} {plan : (n : S) → Plan T n} {n : S} {p q : Plan T n} {after new : List Terminal} {r : Result (T n) Refusal} (m : Mark) → Gives T plan n p after r new → Gives T plan n (eat m p q) (mark m ∷ after) r new
eat_on m (tree d) = tree (eats d)
eat_on m (no_tree d) = no_tree (eats d)
eat_on m no_memory = no_memory

pub eaten : {S : Type 0} {T : S → Type 0} {plan : (n : S) → Plan T n} {n : S} {p q : Plan T n} {ts after new : List Terminal} {r : Result (T n) Refusal} (m : Mark) → ts ≡ mark m ∷ after → Gives T plan n p after r new → Gives T plan n (eat m p q) ts r new
eaten {T = T} {plan = plan} {n = n} {p = p} {q = q} {new = new} {r = r} m e d = subst (λ ts. Gives T plan n (eat m p q) ts r new) (sym e) (eat_on m d)

leave_on : {S : Type 0} {T : S → Type 0} {plan : (n : S) → Plan T n} {n : S} {p q : Plan T n} {ts new : List Terminal} {r : Result (T n) Refusal} {m : Mark} → ¬ (Begins ts m) → Gives T plan n q ts r new → Gives T plan n (eat m p q) ts r new
leave_on h (tree d) = tree (leaves h d)
leave_on h (no_tree d) = no_tree (leaves h d)
leave_on h no_memory = no_memory

pub left : {S : Type 0} {T : S → Type 0} {plan : (n : S) → Plan T n} {n : S} {p q : Plan T n} {ts same new : List Terminal} {r : Result (T n) Refusal} (m : Mark) → (same ≡ ts) × ¬ (Begins ts m) → Gives T plan n q same r new → Gives T plan n (eat m p q) ts r new
left {T = T} {plan = plan} {n = n} {q = q} {new = new} {r = r} m e d = leave_on e.1 (subst (λ ts. Gives T plan n q ts r new) e.0 d)

read_done : {S : Type 0} {T : S → Type 0} {plan : (n : S) → Plan T n} {n s : S} {f : T s → Plan T n} {ts middle new : List Terminal} {x : T s} {r : Result (T n) Refusal} → Runs T plan s (plan s) ts (Some (x, middle)) → Gives T plan n (f x) middle r new → Gives T plan n (read s f) ts r new
read_done c (tree d) = tree (reads c d)
read_done c (no_tree d) = no_tree (reads c d)
read_done c no_memory = no_memory

pub run_of : {S : Type 0} {T : S → Type 0} {plan : (n : S) → Plan T n} {s : S} {ts middle : List Terminal} {x : T s} → Gives T plan s (plan s) ts (Ok x) middle → Runs T plan s (plan s) ts (Some (x, middle))
run_of (tree d) = d

pub read_on : {S : Type 0} {T : S → Type 0} {plan : (n : S) → Plan T n} {n s : S} {f : T s → Plan T n} {ts middle new : List Terminal} {x : T s} {r : Result (T n) Refusal} → Gives T plan s (plan s) ts (Ok x) middle → Gives T plan n (f x) middle r new → Gives T plan n (read s f) ts r new
read_on c d = read_done (run_of c) d

pub read_no : {S : Type 0} {T : S → Type 0} {plan : (n : S) → Plan T n} {n s : S} {f : T s → Plan T n} {ts middle new : List Terminal} {e : Refusal} → Gives T plan s (plan s) ts (Err e) middle → Gives T plan n (read s f) ts (Err e) new
read_no (no_tree c) = no_tree (breaks c)
read_no no_memory = no_memory

take_on : {S : Type 0} {T : S → Type 0} {plan : (n : S) → Plan T n} {n : S} {f : Option Terminal → Plan T n} {ts new : List Terminal} {r : Result (T n) Refusal} → Gives T plan n (f (first ts)) (tail ts) r new → Gives T plan n (take f) ts r new
take_on (tree d) = tree (takes d)
take_on (no_tree d) = no_tree (takes d)
take_on no_memory = no_memory

-- what stood next was taken
pub taken : {S : Type 0} {T : S → Type 0} {plan : (n : S) → Plan T n} {n : S} {f : Option Terminal → Plan T n} {ts rest new : List Terminal} {r : Result (T n) Refusal} {s : Option Terminal} → s ≡ first ts → rest ≡ tail ts → Gives T plan n (f s) rest r new → Gives T plan n (take f) ts r new
taken {T = T} {plan = plan} {n = n} {f = f} {ts = ts} {rest = rest} {new = new} {r = r} e q d = take_on (subst (λ left. Gives T plan n (f (first ts)) left r new) q (subst (λ s. Gives T plan n (f s) rest r new) e d))

see_on : {S : Type 0} {T : S → Type 0} {plan : (n : S) → Plan T n} {n : S} {f : List Terminal → Bool} {p q : Plan T n} {ts new : List Terminal} {r : Result (T n) Refusal} → f ts ≡ true → Gives T plan n p ts r new → Gives T plan n (look f p q) ts r new
see_on h (tree d) = tree (sees h d)
see_on h (no_tree d) = no_tree (sees h d)
see_on h no_memory = no_memory

miss_on : {S : Type 0} {T : S → Type 0} {plan : (n : S) → Plan T n} {n : S} {f : List Terminal → Bool} {p q : Plan T n} {ts new : List Terminal} {r : Result (T n) Refusal} → f ts ≡ false → Gives T plan n q ts r new → Gives T plan n (look f p q) ts r new
miss_on h (tree d) = tree (misses h d)
miss_on h (no_tree d) = no_tree (misses h d)
miss_on h no_memory = no_memory

pub looked : {S : Type 0} {T : S → Type 0} {plan : (n : S) → Plan T n} {n : S} {f : List Terminal → Bool} {p q : Plan T n} {ts new : List Terminal} {r : Result (T n) Refusal} → f ts ≡ true → Gives T plan n p ts r new → Gives T plan n (look f p q) ts r new
looked h d = see_on h d

pub overlooked : {S : Type 0} {T : S → Type 0} {plan : (n : S) → Plan T n} {n : S} {f : List Terminal → Bool} {p q : Plan T n} {ts new : List Terminal} {r : Result (T n) Refusal} → f ts ≡ false → Gives T plan n q ts r new → Gives T plan n (look f p q) ts r new
overlooked h d = miss_on h d

-- what was wanted was found and taken
pub wanted : {S : Type 0} {T : S → Type 0} {plan : (n : S) → Plan T n} {n : S} {A : Type 0} (kind : Option Terminal → Option A) (f : A → Plan T n) {ts rest new : List Terminal} {r : Result (T n) Refusal} {x : A} → kind (first ts) ≡ Some x → rest ≡ tail ts → Gives T plan n (f x) rest r new
    → Gives T plan n (want kind f) ts r new
wanted {T = T} {plan = plan} {n = n} kind f {ts = ts} {rest = rest} {new = new} {r = r} {x = x} e q d = take_on (subst (λ o. Gives T plan n (with f o) (tail ts) r new) (sym e) (subst (λ left. Gives T plan n (f x) left r new) q d))

-- what was wanted doesn't stand there
pub unwanted : {S : Type 0} {T : S → Type 0} {plan : (n : S) → Plan T n} {n : S} {A : Type 0} (kind : Option Terminal → Option A) (f : A → Plan T n) {ts new : List Terminal} → kind (first ts) ≡ None → Gives T plan n (want kind f) ts (Err NoTree) new
unwanted {T = T} {plan = plan} {n = n} kind f {ts = ts} {new = new} e = take_on (subst (λ o. Gives T plan n (with f o) (tail ts) (Err NoTree) new) (sym e) (no_tree fails))

pub perhaps_found : {S : Type 0} {T : S → Type 0} {plan : (n : S) → Plan T n} {n : S} {A : Type 0} (kind : Option Terminal → Option A) (f : A → Plan T n) {q : Plan T n} {ts rest new : List Terminal} {r : Result (T n) Refusal} {x : A} → kind (first ts) ≡ Some x → rest ≡ tail ts → Gives T plan n (f x) rest r new
    → Gives T plan n (perhaps_a kind f q) ts r new
perhaps_found kind f e q d = see_on (ap is_some e) (wanted kind f e q d)

pub perhaps_missed : {S : Type 0} {T : S → Type 0} {plan : (n : S) → Plan T n} {n : S} {A : Type 0} (kind : Option Terminal → Option A) (f : A → Plan T n) {q : Plan T n} {ts same new : List Terminal} {r : Result (T n) Refusal} → kind (first ts) ≡ None → same ≡ ts → Gives T plan n q same r new
    → Gives T plan n (perhaps_a kind f q) ts r new
perhaps_missed {T = T} {plan = plan} {n = n} kind f {q = q} {new = new} {r = r} e s d = miss_on (ap is_some e) (subst (λ ts. Gives T plan n q ts r new) s d)

-- the mark had to stand next and doesn't
pub unexpected : {S : Type 0} {T : S → Type 0} {plan : (n : S) → Plan T n} {n : S} {p : Plan T n} {ts new : List Terminal} (m : Mark) → ¬ (Begins ts m) → Gives T plan n (expect m p) ts (Err NoTree) new
unexpected m h = no_tree (leaves h fails)

pub failed : {S : Type 0} {T : S → Type 0} {plan : (n : S) → Plan T n} {n : S} {ts new : List Terminal} → Gives T plan n fail ts (Err NoTree) new
failed = no_tree fails

-- what was wanted wasn't found
pub not_wanted : {S : Type 0} {T : S → Type 0} {plan : (n : S) → Plan T n} {n : S} {A : Type 0} (kind : Option Terminal → Option A) (f : A → Plan T n) {ts new : List Terminal} (e : Refusal) → Found (kind (first ts)) (Err e) → Gives T plan n (want kind f) ts (Err e) new
not_wanted kind f NoTree h = unwanted kind f h
not_wanted kind f NoMemory h = no_memory

pub refused : {S : Type 0} {T : S → Type 0} {plan : (n : S) → Plan T n} {n : S} {p : Plan T n} {ts new : List Terminal} {e : Refusal} (m : Mark) → (e ≡ NoTree) × ¬ (Begins ts m) → Gives T plan n (expect m p) ts (Err e) new
refused {T = T} {plan = plan} {n = n} {p = p} {ts = ts} {new = new} m h = subst (λ e. Gives T plan n (expect m p) ts (Err e) new) (sym h.0) (unexpected m h.1)

-- a plan of another level that gives its tree as it is
pub read_as : {S : Type 0} {T : S → Type 0} {plan : (n : S) → Plan T n} {s : S} {ts new : List Terminal} {r : Result (T s) Refusal} → Gives T plan s (plan s) ts r new → Gives T plan s (read s (λ x. done x)) ts r new
read_as (tree d) = tree (reads d ends)
read_as (no_tree d) = no_tree (breaks d)
read_as no_memory = no_memory

-- from the same terminals
pub moved : {S : Type 0} {T : S → Type 0} {plan : (n : S) → Plan T n} {n : S} {p : Plan T n} {ts same new : List Terminal} {r : Result (T n) Refusal} → same ≡ ts → Gives T plan n p same r new → Gives T plan n p ts r new
moved {T = T} {plan = plan} {n = n} {p = p} {new = new} {r = r} e d = subst (λ ts. Gives T plan n p ts r new) e d
