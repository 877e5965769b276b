-- Steps that depend on what was found: literals and reserved words that are called, arms, NOT behind an operand.
use Rattle.std.proofs.Common.{◌≡◌, ℕ, ◌^◌, pos, nat_lt, Bool, true, false, if◌then◌else◌, List, [], ◌∷◌, Some, None, Result, Ok, Err, refl, sym, subst, codes, bytes_eq, arith}
use Rattle.std.specs.Bool.{OnTrue, OnFalse, IsTrue}
use Rattle.std.proofs.lemmas.Bool.Decides.{nat_tests}
use Rattle.away_grammar.specs.declared.grammar.Mark.{Mark}
use Rattle.away_grammar.specs.declared.grammar.Mark.TheVariants as m
use Rattle.away_grammar.specs.declared.grammar.Level.TheVariants as l
use Rattle.away_trees.specs.declared.queries.Expr.{Expr}
use Rattle.away_trees.specs.declared.queries.Expr.TheVariants as e
use Rattle.away_trees.specs.declared.queries.Key.{Key}
use Rattle.away_trees.specs.declared.queries.Select.{Select}
use Rattle.away_grammar.specs.Terminals.{Terminal, mark, integer}
use Rattle.away_grammar.specs.Grammar.{at, arms, query, selects, key, Tree, literal_of, called, is_number, may_join}
use Rattle.sql_text.specs.declared.refusal.Refusal.{Refusal}
use Rattle.sql_text.specs.declared.refusal.Refusal.TheVariants.{NoTree, NoMemory}
use Rattle.sql_text.specs.CodeTerminals.{Found, Numbered}
use Rattle.sql_text.specs.Plans.{Plan, done, fail, eat, read, expect, Begins, Gives, tree, no_tree, no_memory, ends, fails, leaves}
use Rattle.sql_text.specs.Descent.{plan, case_plan, cases_with, primary_with, primary_by, word_plan, arguments_plan, within_plan, test_plan, rows_plan, key_with, key_plan, query_with, query_plan}
use Rattle.sql_text.proofs.Steps.{read_on, failed, finished, eaten, left}

-- ---- numbers

number_taken : (n : ℕ) (b : Bool) (r : Result Expr Refusal) (ts : List Terminal) → nat_lt n (2 ^ 63) ≡ b → Numbered n r → Gives Tree plan (at l.Primary) (if b then done (e.Int (pos n)) else fail) ts r ts
number_taken n true (Ok x) ts b h = subst (λ x. Gives Tree plan (at l.Primary) (done (e.Int (pos n))) ts (Ok x) ts) (sym h.1) (tree ends)
number_taken n false (Ok x) ts b h = absurd (grind (arith, nat_tests, b, h.0))
number_taken n true (Err e) ts b h = absurd (grind (arith, nat_tests, b, h.0))
number_taken n false (Err e) ts b h = subst (λ e. Gives Tree plan (at l.Primary) fail ts (Err e) ts) (sym h.1) failed

pub number_gives : (n : ℕ) (r : Result Expr Refusal) (ts : List Terminal) → Numbered n r → Gives Tree plan (at l.Primary) (primary_by (Some (integer n))) ts r ts
number_gives n r ts h = number_taken n (nat_lt n (2 ^ 63)) r ts refl h

-- ---- reserved words

pub word_literal : (s : Mark) (x : Expr) (ts : List Terminal) → Some x ≡ literal_of s → Gives Tree plan (at l.Primary) (word_plan s) ts (Ok x) ts
word_literal s x ts h = subst (λ o. Gives Tree plan (at l.Primary) (primary_with o (called s)) ts (Ok x) ts) h (tree ends)

pub word_called : (s : Mark) (n : List ℕ) (r : Result Expr Refusal) (ts new : List Terminal) → None ≡ literal_of s → called s ≡ Some n → Gives Tree plan (at l.Primary) (arguments_plan n) ts r new → Gives Tree plan (at l.Primary) (word_plan s) ts r new
word_called s n r ts new h q d =
    subst (λ o. Gives Tree plan (at l.Primary) (primary_with o (called s)) ts r new) h (subst (λ o. Gives Tree plan (at l.Primary) (primary_with None o) ts r new) (sym q) d)

pub word_refused : (s : Mark) (f : Refusal) (ts new : List Terminal) → None ≡ literal_of s → Found (called s) (Err f) → Gives Tree plan (at l.Primary) (word_plan s) ts (Err f) new
word_refused s NoMemory ts new h q = no_memory
word_refused s NoTree ts new h q =
    subst (λ o. Gives Tree plan (at l.Primary) (primary_with o (called s)) ts (Err NoTree) new) h (subst (λ o. Gives Tree plan (at l.Primary) (primary_with None o) ts (Err NoTree) new) (sym q) (no_tree fails))

-- ---- CASE

-- behind the arms, of which there is one
abbrev pub behind_arms : List (Expr × Expr) → Plan Tree (at l.Primary)
behind_arms xs = eat m.Else (read (at l.Or) (λ x. expect m.End (done (e.Cases xs (Some x))))) (expect m.End (done (e.Cases xs None)))

not_true : IsTrue false → ⊥
not_true h = grind (arith, h)

arms_there : (xs : List (Expr × Expr)) (r : Result Expr Refusal) (ts new : List Terminal) → (xs ≡ [] → IsTrue false) → Gives Tree plan (at l.Primary) (behind_arms xs) ts r new → Gives Tree plan (at l.Primary) (cases_with xs) ts r new
arms_there [] r ts new h d = absurd (not_true (h refl))
arms_there (x ∷ xs) r ts new h d = d

pub case_on : {xs : List (Expr × Expr)} {r : Result Expr Refusal} {ts middle new : List Terminal} → Gives Tree plan arms (plan arms) ts (Ok xs) middle → (xs ≡ [] → IsTrue false) → Gives Tree plan (at l.Primary) (behind_arms xs) middle r new
    → Gives Tree plan (at l.Primary) case_plan ts r new
case_on {xs = xs} {r = r} {middle = middle} {new = new} d h k = read_on d (arms_there xs r middle new h k)

pub case_without : {xs : List (Expr × Expr)} {ts middle new : List Terminal} → Gives Tree plan arms (plan arms) ts (Ok xs) middle → xs ≡ [] → Gives Tree plan (at l.Primary) case_plan ts (Err NoTree) new
case_without {middle = middle} {new = new} d h = read_on d (subst (λ xs. Gives Tree plan (at l.Primary) (cases_with xs) middle (Err NoTree) new) (sym h) failed)

-- ---- NOT behind an operand

pub range_on : (x : Expr) (b : Bool) (r : Result Expr Refusal) (middle next new : List Terminal) → OnTrue b (middle ≡ mark m.Not ∷ next) → OnFalse b ((next ≡ middle) × ¬ (Begins middle m.Not))
    → Gives Tree plan (at l.Range) (within_plan x b) next r new → Gives Tree plan (at l.Range) (eat m.Not (within_plan x true) (within_plan x false)) middle r new
range_on x true r middle next new y n d = eaten m.Not y d
range_on x false r middle next new y n d = left m.Not n d

pub unranged : {x : Expr} {ts : List Terminal} → ¬ (Begins ts m.Not) × ¬ (Begins ts m.Between) × ¬ (Begins ts m.In)
    → Gives Tree plan (at l.Range) (eat m.Not (within_plan x true) (within_plan x false)) ts (Ok x) ts
unranged h = tree (leaves h.0 (leaves h.1 (leaves h.2 ends)))

pub test_on : (x : Expr) (b : Bool) (r : Result Expr Refusal) (middle next new : List Terminal) → OnTrue b (middle ≡ mark m.Not ∷ next) → OnFalse b ((next ≡ middle) × ¬ (Begins middle m.Not))
    → Gives Tree plan (at l.Is) (test_plan x b) next r new → Gives Tree plan (at l.Is) (eat m.Not (test_plan x true) (test_plan x false)) middle r new
test_on x true r middle next new y n d = eaten m.Not y d
test_on x false r middle next new y n d = left m.Not n d

-- ---- queries and keys

query_joined : (b : Bool) (ss : List Select) (ts : List Terminal) → true ≡ b → Gives Tree plan query (if b then done (query_with None ss) else fail) ts (Ok (query_with None ss)) ts
query_joined true ss ts e = tree ends
query_joined false ss ts e = absurd (cc e)

query_apart : (b : Bool) (ss : List Select) (ts new : List Terminal) → false ≡ b → Gives Tree plan query (if b then done (query_with None ss) else fail) ts (Err NoTree) new
query_apart true ss ts new e = absurd (cc e)
query_apart false ss ts new e = no_tree fails

pub query_given : {ts new : List Terminal} (ss : List Select) → Gives Tree plan selects (plan selects) ts (Ok ss) new → true ≡ may_join ss → Gives Tree plan query query_plan ts (Ok (query_with None ss)) new
query_given {new = new} ss d e = read_on d (query_joined (may_join ss) ss new e)

pub query_refused : {ts middle new : List Terminal} (ss : List Select) → Gives Tree plan selects (plan selects) ts (Ok ss) middle → false ≡ may_join ss → Gives Tree plan query query_plan ts (Err NoTree) new
query_refused {middle = middle} {new = new} ss d e = read_on d (query_apart (may_join ss) ss middle new e)

-- behind a key's expression
abbrev pub directed : Expr → Plan Tree key
directed x = eat m.Desc (done (key_with x true)) (eat m.Asc (done (key_with x false)) (done (key_with x false)))

key_of_number : (b : Bool) (x : Expr) (ts new : List Terminal) → true ≡ b → Gives Tree plan key (if b then fail else directed x) ts (Err NoTree) new
key_of_number true x ts new e = no_tree fails
key_of_number false x ts new e = absurd (cc e)

key_of_other : (b : Bool) (x : Expr) (r : Result Key Refusal) (ts new : List Terminal) → false ≡ b → Gives Tree plan key (directed x) ts r new → Gives Tree plan key (if b then fail else directed x) ts r new
key_of_other true x r ts new e d = absurd (cc e)
key_of_other false x r ts new e d = d

pub key_refused : {x : Expr} {ts middle new : List Terminal} → Gives Tree plan (at l.Or) (plan (at l.Or)) ts (Ok x) middle → true ≡ is_number x → Gives Tree plan key key_plan ts (Err NoTree) new
key_refused {x = x} {middle = middle} {new = new} d e = read_on d (key_of_number (is_number x) x middle new e)

pub key_on : {x : Expr} {r : Result Key Refusal} {ts middle new : List Terminal} → Gives Tree plan (at l.Or) (plan (at l.Or)) ts (Ok x) middle → false ≡ is_number x → Gives Tree plan key (directed x) middle r new → Gives Tree plan key key_plan ts r new
key_on {x = x} {r = r} {middle = middle} {new = new} d e k = read_on d (key_of_other (is_number x) x r middle new e k)

-- ASC stands there or not
pub direction : (x : Expr) (b : Bool) (ts new : List Terminal) → OnTrue b (ts ≡ mark m.Asc ∷ new) → OnFalse b ((new ≡ ts) × ¬ (Begins ts m.Asc)) → Gives Tree plan key (eat m.Asc (done (key_with x false)) (done (key_with x false))) ts (Ok (key_with x false)) new
direction x true ts new y n = eaten m.Asc y (finished refl)
direction x false ts new y n = left m.Asc n (finished refl)

-- ---- count(*)

rows_by : (b : Bool) (r : Result Expr Refusal) (ts new : List Terminal) → true ≡ b → Gives Tree plan (at l.Primary) (expect m.Close (done e.CountRows)) ts r new
    → Gives Tree plan (at l.Primary) (if b then expect m.Close (done e.CountRows) else fail) ts r new
rows_by true r ts new e d = d
rows_by false r ts new e d = absurd (cc e)

no_rows_by : (b : Bool) (ts new : List Terminal) → false ≡ b → Gives Tree plan (at l.Primary) (if b then expect m.Close (done e.CountRows) else fail) ts (Err NoTree) new
no_rows_by true ts new e = absurd (cc e)
no_rows_by false ts new e = no_tree fails

pub rows_counted : (n : List ℕ) (r : Result Expr Refusal) (ts new : List Terminal) → true ≡ bytes_eq n (codes "count") → Gives Tree plan (at l.Primary) (expect m.Close (done e.CountRows)) ts r new → Gives Tree plan (at l.Primary) (rows_plan n) ts r new
rows_counted n r ts new e d = rows_by (bytes_eq n (codes "count")) r ts new e d

pub rows_refused : (n : List ℕ) (ts new : List Terminal) → false ≡ bytes_eq n (codes "count") → Gives Tree plan (at l.Primary) (rows_plan n) ts (Err NoTree) new
rows_refused n ts new e = no_rows_by (bytes_eq n (codes "count")) ts new e
