-- Names, one behind the other or behind `public.`.
use Rattle.std.proofs.Common.{◌≡◌, ℕ, Bool, true, false, if◌then◌else◌, List, [], ◌∷◌, ◌++◌, Option, Some, None, Result, Ok, Err, codes, bytes_eq, refl, sym, ap, subst, append_assoc}
use Rattle.std.specs.Bool.{OnTrue, OnFalse}
use Rattle.away_grammar.specs.declared.grammar.Mark.{Mark}
use Rattle.away_grammar.specs.declared.grammar.Mark.TheVariants as m
use Rattle.away_grammar.specs.Terminals.{Terminal, mark}
use Rattle.away_grammar.specs.Grammar.{Sort, names, Tree}
use Rattle.sql_text.specs.declared.refusal.Refusal.{Refusal}
use Rattle.sql_text.specs.declared.refusal.Refusal.TheVariants.{NoTree, NoMemory}
use Rattle.sql_text.specs.TerminalKinds.{name_in}
use Rattle.sql_text.specs.CodeTerminals.{Found, Taken}
use Rattle.sql_text.specs.Plans.{Plan, done, read, eat, with, perhaps_a, first, tail, Begins, Runs, ends, fails, takes, eats, leaves, reads, breaks, Gives, tree, no_tree, no_memory}
use Rattle.sql_text.specs.Descent.{plan, a_name, schema_qualified_name}
use Rattle.sql_text.specs.SchemaQualified.{NameRead}
use Rattle.sql_text.proofs.Loops.{behind}
use Rattle.sql_text.proofs.Steps.{eaten, left, perhaps_found, perhaps_missed}

-- ---- one name

-- a plan that begins with a name goes on by it
pub named_on : {s : Sort} {ts rest : List Terminal} {n : List ℕ} {o : Option (Tree s × List Terminal)} (f : List ℕ → Plan Tree s) → name_in (first ts) ≡ Some n → rest ≡ tail ts → Runs Tree plan s (f n) rest o → Runs Tree plan s (a_name f) ts o
named_on {s = s} {ts = ts} {n = n} {o = o} f e q d =
    takes (subst (λ found. Runs Tree plan s (with f found) (tail ts) o) (sym e) (subst (λ left. Runs Tree plan s (f n) left o) q d))

pub unnamed : {s : Sort} {ts : List Terminal} (f : List ℕ → Plan Tree s) → name_in (first ts) ≡ None → Runs Tree plan s (a_name f) ts None
unnamed {s = s} {ts = ts} f e = takes (subst (λ found. Runs Tree plan s (with f found) (tail ts) None) (sym e) fails)

-- ---- behind `public.`

behind_public : {s : Sort} {ts : List Terminal} {o : Option (Tree s × List Terminal)} (n : List ℕ) (f : List ℕ → Plan Tree s) → bytes_eq n (codes "public") ≡ true → Runs Tree plan s (eat m.Dot (a_name f) (f n)) ts o
    → Runs Tree plan s (if bytes_eq n (codes "public") then eat m.Dot (a_name f) (f n) else f n) ts o
behind_public {s = s} {ts = ts} {o = o} n f e d = subst (λ b. Runs Tree plan s (if b then eat m.Dot (a_name f) (f n) else f n) ts o) (sym e) d

not_public : {s : Sort} {ts : List Terminal} {o : Option (Tree s × List Terminal)} (n : List ℕ) (f : List ℕ → Plan Tree s) → bytes_eq n (codes "public") ≡ false → Runs Tree plan s (f n) ts o
    → Runs Tree plan s (if bytes_eq n (codes "public") then eat m.Dot (a_name f) (f n) else f n) ts o
not_public {s = s} {ts = ts} {o = o} n f e d = subst (λ b. Runs Tree plan s (if b then eat m.Dot (a_name f) (f n) else f n) ts o) (sym e) d

-- no name stands there
pub none_read : (old new : List Terminal) (e : Refusal) → Found (name_in (first old)) (Err e) → NameRead old (Err e) new
none_read old new NoTree h = λ s f. unnamed (λ n. if bytes_eq n (codes "public") then eat m.Dot (a_name f) (f n) else f n) h
none_read old new NoMemory h = tt

-- a name that isn't `public`
pub other_read : {old new : List Terminal} {n : List ℕ} → name_in (first old) ≡ Some n → new ≡ tail old → bytes_eq n (codes "public") ≡ false → NameRead old (Ok n) new
other_read {n = n} e q other s f o d = named_on (λ n. if bytes_eq n (codes "public") then eat m.Dot (a_name f) (f n) else f n) e q (not_public n f other d)

-- `public` without a dot behind it
pub public_read : {old rest new : List Terminal} {n : List ℕ} → name_in (first old) ≡ Some n → rest ≡ tail old → bytes_eq n (codes "public") ≡ true → (new ≡ rest) × ¬ (Begins rest m.Dot) → NameRead old (Ok n) new
public_read {n = n} e q public h s f o d =
    named_on (λ n. if bytes_eq n (codes "public") then eat m.Dot (a_name f) (f n) else f n) e q (behind_public n f public (leaves h.1 (subst (λ ts. Runs Tree plan s (f n) ts o) h.0 d)))

-- a name behind `public.`
pub qualified_read : {old rest after new : List Terminal} {n t : List ℕ} → name_in (first old) ≡ Some n → rest ≡ tail old → bytes_eq n (codes "public") ≡ true → rest ≡ mark m.Dot ∷ after → name_in (first after) ≡ Some t → new ≡ tail after
    → NameRead old (Ok t) new
qualified_read {n = n} e q public h w p s f o d =
    named_on (λ n. if bytes_eq n (codes "public") then eat m.Dot (a_name f) (f n) else f n) e q
    (behind_public n f public (subst (λ ts. Runs Tree plan s (eat m.Dot (a_name f) (f n)) ts o) (sym h) (eats (named_on f w p d))))

-- no name stands behind `public.`
dot_alone : (old new : List Terminal) {rest after : List Terminal} {n : List ℕ} (r : Refusal) → name_in (first old) ≡ Some n → rest ≡ tail old → bytes_eq n (codes "public") ≡ true → rest ≡ mark m.Dot ∷ after → Found (name_in (first after)) (Err r)
    → NameRead old (Err r) new
dot_alone old new {n = n} NoTree e q public h w = λ s f.
    named_on (λ n. if bytes_eq n (codes "public") then eat m.Dot (a_name f) (f n) else f n) e q
    (behind_public n f public (subst (λ ts. Runs Tree plan s (eat m.Dot (a_name f) (f n)) ts None) (sym h) (eats (unnamed f w))))
dot_alone old new NoMemory e q public h w = tt

-- whether a name stands behind `public.` or none
pub behind_dot : (old new : List Terminal) {rest after : List Terminal} {n : List ℕ} (r : Result (List ℕ) Refusal) → name_in (first old) ≡ Some n → rest ≡ tail old → bytes_eq n (codes "public") ≡ true → rest ≡ mark m.Dot ∷ after → Found (name_in (first after)) r
    → new ≡ tail after → NameRead old r new
behind_dot old new (Ok t) e q public h w p = qualified_read e q public h w p
behind_dot old new (Err r) e q public h w p = dot_alone old new r e q public h w

-- a plan goes on by the name that was read
pub name_read : {s : Sort} {old new last : List Terminal} {n : List ℕ} {r : Result (Tree s) Refusal} (f : List ℕ → Plan Tree s) → NameRead old (Ok n) new → Gives Tree plan s (f n) new r last → Gives Tree plan s (schema_qualified_name f) old r last
name_read {s = s} f h (tree d) = tree (h s f _ d)
name_read {s = s} f h (no_tree d) = no_tree (h s f None d)
name_read f h no_memory = no_memory

pub name_missing : {s : Sort} {old last : List Terminal} (new : List Terminal) (f : List ℕ → Plan Tree s) (e : Refusal) → NameRead old (Err e) new → Gives Tree plan s (schema_qualified_name f) old (Err e) last
name_missing {s = s} new f NoTree h = no_tree (h s f)
name_missing new f NoMemory h = no_memory

-- ---- where a plan goes on either way

-- the same plan, whether the mark stood there or not
pub eaten_or_left : {s : Sort} {p : Plan Tree s} {ts now new : List Terminal} {r : Result (Tree s) Refusal} (m : Mark) (found : Bool) → OnTrue found (ts ≡ mark m ∷ now) → OnFalse found ((now ≡ ts) × ¬ (Begins ts m))
    → Gives Tree plan s p now r new → Gives Tree plan s (eat m p p) ts r new
eaten_or_left m true h g d = eaten m h d
eaten_or_left m false h g d = left m g d

-- a name stood there and was taken
pub name_there : {s : Sort} {q : Plan Tree s} {ts rest new : List Terminal} {r : Result (Tree s) Refusal} {n : List ℕ} (found : Option (List ℕ)) (f : List ℕ → Plan Tree s) → (found ≡ name_in (first ts)) × Taken found ts rest → found ≡ Some n
    → Gives Tree plan s (f n) rest r new → Gives Tree plan s (perhaps_a name_in f q) ts r new
name_there {ts = ts} {rest = rest} found f h e d =
    let taken = subst (λ found. (found ≡ name_in (first ts)) × Taken found ts rest) e h in
    perhaps_found name_in f (sym taken.0) taken.1 d

-- no name stood there
pub no_name_there : {s : Sort} {q : Plan Tree s} {ts rest new : List Terminal} {r : Result (Tree s) Refusal} (found : Option (List ℕ)) (f : List ℕ → Plan Tree s) → (found ≡ name_in (first ts)) × Taken found ts rest → found ≡ None
    → Gives Tree plan s q rest r new → Gives Tree plan s (perhaps_a name_in f q) ts r new
no_name_there {ts = ts} {rest = rest} found f h e d =
    let taken = subst (λ found. (found ≡ name_in (first ts)) × Taken found ts rest) e h in
    perhaps_missed name_in f (sym taken.0) taken.1 d

-- ---- names with commas

-- whatever the plan gives from here, behind those that were found it is what the plan gives from the start
abbrev pub NamesLead : List Terminal → List (List ℕ) → List Terminal → Type 0
NamesLead old found now = (o : Option (List (List ℕ) × List Terminal)) → Runs Tree plan names (plan names) now o → Runs Tree plan names (plan names) old (behind found o)

pub behind_both : {A : Type 0} (found : List A) (x : A) (o : Option (List A × List Terminal)) → behind found (behind (x ∷ []) o) ≡ behind (found ++ x ∷ []) o
behind_both found x None = refl
behind_both found x (Some p) = ap (λ xs. Some (xs, p.1)) (sym (append_assoc found (x ∷ []) p.0))

names_on : {n : List ℕ} {ts : List Terminal} (o : Option (List (List ℕ) × List Terminal)) → Runs Tree plan names (plan names) ts o → Runs Tree plan names (read names (λ ns. done (n ∷ ns))) ts (behind (n ∷ []) o)
names_on None d = breaks d
names_on (Some p) d = reads d ends

abbrev and_more : List ℕ → Plan Tree names
and_more n = eat m.Comma (read names (λ ns. done (n ∷ ns))) (done (n ∷ []))

pub names_begin : (old : List Terminal) → NamesLead old [] old
names_begin old None d = d
names_begin old (Some p) d = d

pub names_more : {old now middle new : List Terminal} {n : List ℕ} (found : List (List ℕ)) → NamesLead old found now → name_in (first now) ≡ Some n → middle ≡ tail now → middle ≡ mark m.Comma ∷ new → NamesLead old (found ++ n ∷ []) new
names_more {old = old} {n = n} found b w q e o r =
    subst (λ o. Runs Tree plan names (plan names) old o) (behind_both found n o)
    (b (behind (n ∷ []) o) (named_on and_more w q (subst (λ ts. Runs Tree plan names (and_more n) ts (behind (n ∷ []) o)) (sym e) (eats (names_on o r)))))

pub names_end : {old now middle new : List Terminal} {n : List ℕ} (found : List (List ℕ)) → NamesLead old found now → name_in (first now) ≡ Some n → middle ≡ tail now → (new ≡ middle) × ¬ (Begins middle m.Comma)
    → Gives Tree plan names (plan names) old (Ok (found ++ n ∷ [])) new
names_end {middle = middle} {new = new} {n = n} found b w q e =
    tree (b (Some (n ∷ [], new)) (named_on and_more w q (leaves e.1 (subst (λ ts. Runs Tree plan names (done (n ∷ [])) middle (Some (n ∷ [], ts))) (sym e.0) ends))))

pub names_fail : {old now new : List Terminal} (e : Refusal) (found : List (List ℕ)) → NamesLead old found now → Found (name_in (first now)) (Err e) → Gives Tree plan names (plan names) old (Err e) new
names_fail NoTree found b h = no_tree (b None (unnamed and_more h))
names_fail NoMemory found b h = no_memory
