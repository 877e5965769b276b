-- What a loop has read so far, and what is left of its plan.
use Rattle.std.proofs.Common.{◌≡◌, false, List, [], ◌∷◌, ◌++◌, Option, Some, None, Result, Ok, Err, refl, sym, ap, subst, append_assoc, append-nil}
use Rattle.away_values.specs.declared.operators.ChainOp.{ChainOp}
use Rattle.away_grammar.specs.declared.grammar.Level.{Level}
use Rattle.away_trees.specs.declared.queries.Expr.{Expr}
use Rattle.away_trees.specs.declared.queries.Item.{Item}
use Rattle.away_trees.specs.declared.queries.FromItem.{FromItem}
use Rattle.away_trees.specs.declared.queries.Key.{Key}
use Rattle.away_trees.specs.declared.queries.Select.{Select}
use Rattle.away_grammar.specs.declared.grammar.Level.TheVariants as l
use Rattle.away_grammar.specs.declared.grammar.Mark.TheVariants as m
use Rattle.away_grammar.specs.Terminals.{Terminal, mark}
use Rattle.away_grammar.specs.Grammar.{at, links, list, arms, item, items, from_item, from_items, from_clause, key, keys, order_clause, select, selects, Tree, chained, operands}
use Rattle.sql_text.specs.declared.refusal.Refusal.{Refusal}
use Rattle.sql_text.specs.declared.refusal.Refusal.TheVariants.{NoTree}
use Rattle.sql_text.specs.TerminalKinds.{operator_in}
use Rattle.sql_text.specs.Plans.{Plan, done, read, eat, expect, with, is_some, first, tail, Begins, Runs, ends, fails, takes, eats, leaves, sees, misses, reads, breaks, Gives, tree, no_tree, no_memory}
use Rattle.sql_text.proofs.Steps.{run_of, read_no, read_on}
use Rattle.sql_text.specs.Descent.{plan, chain_plan, links_plan}

-- these, behind those that were found
abbrev pub behind : {A : Type 0} → List A → Option (List A × List Terminal) → Option (List A × List Terminal)
behind found None = None
behind found (Some p) = Some (found ++ p.0, p.1)

-- whatever the plan gives from here, behind those that were found it is what the plan gives from the start
abbrev pub ListLeads : List Terminal → List Expr → List Terminal → Type 0
ListLeads old found now = (o : Option (List Expr × List Terminal)) → Runs Tree plan list (plan list) now o → Runs Tree plan list (plan list) old (behind found o)

abbrev pub ArmsLead : List Terminal → List (Expr × Expr) → List Terminal → Type 0
ArmsLead old found now = (o : Option (List (Expr × Expr) × List Terminal)) → Runs Tree plan arms (plan arms) now o → Runs Tree plan arms (plan arms) old (behind found o)

abbrev pub LinksLead : Level → List Terminal → List (ChainOp × Expr) → List Terminal → Type 0
LinksLead level old found now = (o : Option (List (ChainOp × Expr) × List Terminal)) → Runs Tree plan (links level) (plan (links level)) now o → Runs Tree plan (links level) (plan (links level)) old (behind found o)

-- ---- lists with commas

list_on : {x : Expr} {ts : List Terminal} (o : Option (List Expr × List Terminal)) → Runs Tree plan list (plan list) ts o → Runs Tree plan list (read list (λ xs. done (x ∷ xs))) ts (behind (x ∷ []) o)
list_on None d = breaks d
list_on (Some p) d = reads d ends

behind_both : {A : Type 0} (found : List A) (x : A) (o : Option (List A × List Terminal)) → behind found (behind (x ∷ []) o) ≡ behind (found ++ x ∷ []) o
behind_both found x None = refl
behind_both found x (Some p) = ap (λ xs. Some (xs, p.1)) (sym (append_assoc found (x ∷ []) p.0))

pub list_begins : (old : List Terminal) → ListLeads old [] old
list_begins old None d = d
list_begins old (Some p) d = d

pub list_more : {old now middle new : List Terminal} {x : Expr} (found : List Expr) → ListLeads old found now → Gives Tree plan (at l.Or) (plan (at l.Or)) now (Ok x) middle → middle ≡ mark m.Comma ∷ new → ListLeads old (found ++ x ∷ []) new
list_more {old = old} {new = new} {x = x} found b d e o r =
    subst (λ o. Runs Tree plan list (plan list) old o) (behind_both found x o)
    (b (behind (x ∷ []) o) (reads (run_of d) (subst (λ ts. Runs Tree plan list (eat m.Comma (read list (λ xs. done (x ∷ xs))) (done (x ∷ []))) ts (behind (x ∷ []) o)) (sym e) (eats (list_on o r)))))

pub list_ends : {old now middle new : List Terminal} {x : Expr} (found : List Expr) → ListLeads old found now → Gives Tree plan (at l.Or) (plan (at l.Or)) now (Ok x) middle → (new ≡ middle) × ¬ (Begins middle m.Comma)
    → Gives Tree plan list (plan list) old (Ok (found ++ x ∷ [])) new
list_ends {middle = middle} {new = new} {x = x} found b d e =
    tree (b (Some (x ∷ [], new)) (reads (run_of d) (leaves e.1 (subst (λ ts. Runs Tree plan list (done (x ∷ [])) middle (Some (x ∷ [], ts))) (sym e.0) ends))))

pub list_fails : {old now new other : List Terminal} {e : Refusal} (found : List Expr) → ListLeads old found now → Gives Tree plan (at l.Or) (plan (at l.Or)) now (Err e) new → Gives Tree plan list (plan list) old (Err e) other
list_fails found b (no_tree d) = no_tree (b None (breaks d))
list_fails found b no_memory = no_memory

-- ---- arms

arms_on : {x : Expr × Expr} {ts : List Terminal} (o : Option (List (Expr × Expr) × List Terminal)) → Runs Tree plan arms (plan arms) ts o → Runs Tree plan arms (read arms (λ xs. done (x ∷ xs))) ts (behind (x ∷ []) o)
arms_on None d = breaks d
arms_on (Some p) d = reads d ends

pub arms_begin : (old : List Terminal) → ArmsLead old [] old
arms_begin old None d = d
arms_begin old (Some p) d = d

pub arms_more : {old now a b c new : List Terminal} {test value : Expr} (found : List (Expr × Expr)) → ArmsLead old found now → now ≡ mark m.When ∷ a → Gives Tree plan (at l.Or) (plan (at l.Or)) a (Ok test) b → b ≡ mark m.Then ∷ c
    → Gives Tree plan (at l.Or) (plan (at l.Or)) c (Ok value) new → ArmsLead old (found ++ (test, value) ∷ []) new
arms_more {old = old} {b = b} {c = c} {new = new} {test = test} {value = value} found h w t e v o r =
    subst (λ o. Runs Tree plan arms (plan arms) old o) (behind_both found (test, value) o)
    (h (behind ((test, value) ∷ []) o)
    (subst (λ ts. Runs Tree plan arms (plan arms) ts (behind ((test, value) ∷ []) o)) (sym w)
    (eats (reads (run_of t) (subst (λ ts. Runs Tree plan arms (expect m.Then (read (at l.Or) (λ value. read arms (λ more. done ((test, value) ∷ more))))) ts (behind ((test, value) ∷ []) o)) (sym e)
    (eats (reads (run_of v) (arms_on o r))))))))

pub arms_end : {old now new : List Terminal} {found : List (Expr × Expr)} → ArmsLead old found now → (new ≡ now) × ¬ (Begins now m.When) → Gives Tree plan arms (plan arms) old (Ok found) new
arms_end {old = old} {now = now} {new = new} {found = found} h e =
    subst (λ xs. Gives Tree plan arms (plan arms) old (Ok xs) new) (append-nil found) (tree (h (Some ([], new)) (leaves e.1 (subst (λ ts. Runs Tree plan arms (done []) now (Some ([], ts))) (sym e.0) ends))))

-- what fails at an arm fails the whole
pub arms_fail : {old now new : List Terminal} {e : Refusal} (found : List (Expr × Expr)) → ArmsLead old found now → Gives Tree plan arms (plan arms) now (Err e) new → Gives Tree plan arms (plan arms) old (Err e) new
arms_fail found b (no_tree d) = no_tree (b None d)
arms_fail found b no_memory = no_memory

-- ---- chains

links_on : {level : Level} {x : ChainOp × Expr} {ts : List Terminal} (o : Option (List (ChainOp × Expr) × List Terminal)) → Runs Tree plan (links level) (plan (links level)) ts o
    → Runs Tree plan (links level) (read (links level) (λ xs. done (x ∷ xs))) ts (behind (x ∷ []) o)
links_on None d = breaks d
links_on (Some p) d = reads d ends

at_level : {a b : Level} {ts new : List Terminal} {r : Result Expr Refusal} → a ≡ b → Gives Tree plan (at a) (plan (at a)) ts r new → Gives Tree plan (at b) (plan (at b)) ts r new
at_level {ts = ts} {new = new} {r = r} e d = subst (λ a. Gives Tree plan (at a) (plan (at a)) ts r new) e d

pub chain_fails : {level inner : Level} {ts middle new : List Terminal} {e : Refusal} → inner ≡ operands level → Gives Tree plan (at inner) (plan (at inner)) ts (Err e) middle → Gives Tree plan (at level) (chain_plan level) ts (Err e) new
chain_fails e d = read_no (at_level e d)

pub chain_alone : {level inner : Level} {ts new : List Terminal} {x : Expr} → inner ≡ operands level → Gives Tree plan (at inner) (plan (at inner)) ts (Ok x) new → false ≡ is_some (operator_in level (first new))
    → Gives Tree plan (at level) (chain_plan level) ts (Ok x) new
chain_alone e d h = read_on (at_level e d) (tree (reads (misses (sym h) ends) ends))

pub chain_on : {level inner : Level} {ts middle new : List Terminal} {x : Expr} {r : Result Expr Refusal} → inner ≡ operands level → Gives Tree plan (at inner) (plan (at inner)) ts (Ok x) middle
    → Gives Tree plan (at level) (read (links level) (λ xs. done (chained x xs))) middle r new → Gives Tree plan (at level) (chain_plan level) ts r new
chain_on e d rest = read_on (at_level e d) rest

pub links_begin : (level : Level) (old : List Terminal) → LinksLead level old [] old
links_begin level old None d = d
links_begin level old (Some p) d = d

link_runs : {level inner : Level} {now after new : List Terminal} {o : ChainOp} {x : Expr} → Some o ≡ operator_in level (first now) → after ≡ tail now → inner ≡ operands level → Gives Tree plan (at inner) (plan (at inner)) after (Ok x) new
    → (given : Option (List (ChainOp × Expr) × List Terminal)) → Runs Tree plan (links level) (plan (links level)) new given → Runs Tree plan (links level) (plan (links level)) now (behind ((o, x) ∷ []) given)
link_runs {level = level} {now = now} {new = new} {o = o} {x = x} f q e d given r =
    sees (ap is_some (sym f))
    (takes (subst (λ found. Runs Tree plan (links level) (with (λ o. read (at (operands level)) (λ x. read (links level) (λ xs. done ((o, x) ∷ xs)))) found) (tail now) (behind ((o, x) ∷ []) given)) f
    (reads (subst (λ ts. Runs Tree plan (at (operands level)) (plan (at (operands level))) ts (Some (x, new))) q (run_of (at_level e d))) (links_on given r))))

pub links_more : {level inner : Level} {old now after new : List Terminal} {x : Expr} {o : ChainOp} (found : List (ChainOp × Expr)) → LinksLead level old found now → Some o ≡ operator_in level (first now) → after ≡ tail now
    → inner ≡ operands level → Gives Tree plan (at inner) (plan (at inner)) after (Ok x) new → LinksLead level old (found ++ (o, x) ∷ []) new
links_more {level = level} {old = old} {x = x} {o = o} found b f q e d given r =
    subst (λ o. Runs Tree plan (links level) (plan (links level)) old o) (behind_both found (o, x) given) (b (behind ((o, x) ∷ []) given) (link_runs f q e d given r))

pub links_fail : {level inner : Level} {old now after new other : List Terminal} {o : ChainOp} {e : Refusal} (found : List (ChainOp × Expr)) → LinksLead level old found now → Some o ≡ operator_in level (first now) → after ≡ tail now
    → inner ≡ operands level → Gives Tree plan (at inner) (plan (at inner)) after (Err e) new → Gives Tree plan (links level) (links_plan level) old (Err e) other
links_fail found b f q e no_memory = no_memory
links_fail {level = level} {now = now} {after = after} found b f q e (no_tree d) =
    no_tree (b None (sees (ap is_some (sym f)) (takes (subst (λ found. Runs Tree plan (links level) (with (λ o. read (at (operands level)) (λ x. read (links level) (λ xs. done ((o, x) ∷ xs)))) found) (tail now) None) f
    (breaks (subst (λ ts. Runs Tree plan (at (operands level)) (plan (at (operands level))) ts None) q (subst (λ a. Runs Tree plan (at a) (plan (at a)) after None) e d)))))))

pub links_end : {level : Level} {old now new : List Terminal} {found : List (ChainOp × Expr)} → LinksLead level old found now → None ≡ operator_in level (first now) → new ≡ now
    → Gives Tree plan (links level) (links_plan level) old (Ok found) new
links_end {level = level} {old = old} {now = now} {new = new} {found = found} b f e =
    subst (λ xs. Gives Tree plan (links level) (links_plan level) old (Ok xs) new) (append-nil found)
    (tree (b (Some ([], new)) (misses (ap is_some (sym f)) (subst (λ ts. Runs Tree plan (links level) (done []) now (Some ([], ts))) (sym e) ends))))

-- ---- levels

-- a level that gives what another gives
pub levelled : {a b : Level} {ts new : List Terminal} {r : Result Expr Refusal} → Gives Tree plan (at b) (plan (at b)) ts r new → Gives Tree plan (at a) (read (at b) (λ x. done x)) ts r new
levelled (tree d) = tree (reads d ends)
levelled (no_tree d) = no_tree (breaks d)
levelled no_memory = no_memory

abbrev pub ItemsLead : List Terminal → List Item → List Terminal → Type 0
ItemsLead old found now = (o : Option (List Item × List Terminal)) → Runs Tree plan items (plan items) now o → Runs Tree plan items (plan items) old (behind found o)

abbrev pub FromLead : List Terminal → List FromItem → List Terminal → Type 0
FromLead old found now = (o : Option (List FromItem × List Terminal)) → Runs Tree plan from_items (plan from_items) now o → Runs Tree plan from_items (plan from_items) old (behind found o)

abbrev pub KeysLead : List Terminal → List Key → List Terminal → Type 0
KeysLead old found now = (o : Option (List Key × List Terminal)) → Runs Tree plan keys (plan keys) now o → Runs Tree plan keys (plan keys) old (behind found o)

abbrev pub SelectsLead : List Terminal → List Select → List Terminal → Type 0
SelectsLead old found now = (o : Option (List Select × List Terminal)) → Runs Tree plan selects (plan selects) now o → Runs Tree plan selects (plan selects) old (behind found o)

items_on : {x : Item} {ts : List Terminal} (o : Option (List Item × List Terminal)) → Runs Tree plan items (plan items) ts o → Runs Tree plan items (read items (λ xs. done (x ∷ xs))) ts (behind (x ∷ []) o)
items_on None d = breaks d
items_on (Some p) d = reads d ends

pub items_more : {old now middle new : List Terminal} {x : Item} (found : List Item) → ItemsLead old found now → Gives Tree plan item (plan item) now (Ok x) middle → middle ≡ mark m.Comma ∷ new → ItemsLead old (found ++ x ∷ []) new
items_more {old = old} {new = new} {x = x} found b d e o r =
    subst (λ o. Runs Tree plan items (plan items) old o) (behind_both found x o)
    (b (behind (x ∷ []) o) (reads (run_of d) (subst (λ ts. Runs Tree plan items (eat m.Comma (read items (λ xs. done (x ∷ xs))) (done (x ∷ []))) ts (behind (x ∷ []) o)) (sym e) (eats (items_on o r)))))

pub items_end : {old now middle new : List Terminal} {x : Item} (found : List Item) → ItemsLead old found now → Gives Tree plan item (plan item) now (Ok x) middle → (new ≡ middle) × ¬ (Begins middle m.Comma)
    → Gives Tree plan items (plan items) old (Ok (found ++ x ∷ [])) new
items_end {middle = middle} {new = new} {x = x} found b d e =
    tree (b (Some (x ∷ [], new)) (reads (run_of d) (leaves e.1 (subst (λ ts. Runs Tree plan items (done (x ∷ [])) middle (Some (x ∷ [], ts))) (sym e.0) ends))))

pub items_fail : {old now new other : List Terminal} {e : Refusal} (found : List Item) → ItemsLead old found now → Gives Tree plan item (plan item) now (Err e) new → Gives Tree plan items (plan items) old (Err e) other
items_fail found b (no_tree d) = no_tree (b None (breaks d))
items_fail found b no_memory = no_memory

from_on : {x : FromItem} {ts : List Terminal} (o : Option (List FromItem × List Terminal)) → Runs Tree plan from_items (plan from_items) ts o → Runs Tree plan from_items (read from_items (λ xs. done (x ∷ xs))) ts (behind (x ∷ []) o)
from_on None d = breaks d
from_on (Some p) d = reads d ends

pub from_more : {old now middle new : List Terminal} {x : FromItem} (found : List FromItem) → FromLead old found now → Gives Tree plan from_item (plan from_item) now (Ok x) middle → middle ≡ mark m.Comma ∷ new → FromLead old (found ++ x ∷ []) new
from_more {old = old} {new = new} {x = x} found b d e o r =
    subst (λ o. Runs Tree plan from_items (plan from_items) old o) (behind_both found x o)
    (b (behind (x ∷ []) o) (reads (run_of d) (subst (λ ts. Runs Tree plan from_items (eat m.Comma (read from_items (λ xs. done (x ∷ xs))) (done (x ∷ []))) ts (behind (x ∷ []) o)) (sym e) (eats (from_on o r)))))

pub from_end : {old now middle new : List Terminal} {x : FromItem} (found : List FromItem) → FromLead old found now → Gives Tree plan from_item (plan from_item) now (Ok x) middle → (new ≡ middle) × ¬ (Begins middle m.Comma)
    → Gives Tree plan from_items (plan from_items) old (Ok (found ++ x ∷ [])) new
from_end {middle = middle} {new = new} {x = x} found b d e =
    tree (b (Some (x ∷ [], new)) (reads (run_of d) (leaves e.1 (subst (λ ts. Runs Tree plan from_items (done (x ∷ [])) middle (Some (x ∷ [], ts))) (sym e.0) ends))))

pub from_fail : {old now new other : List Terminal} {e : Refusal} (found : List FromItem) → FromLead old found now → Gives Tree plan from_item (plan from_item) now (Err e) new → Gives Tree plan from_items (plan from_items) old (Err e) other
from_fail found b (no_tree d) = no_tree (b None (breaks d))
from_fail found b no_memory = no_memory

keys_on : {x : Key} {ts : List Terminal} (o : Option (List Key × List Terminal)) → Runs Tree plan keys (plan keys) ts o → Runs Tree plan keys (read keys (λ xs. done (x ∷ xs))) ts (behind (x ∷ []) o)
keys_on None d = breaks d
keys_on (Some p) d = reads d ends

pub keys_more : {old now middle new : List Terminal} {x : Key} (found : List Key) → KeysLead old found now → Gives Tree plan key (plan key) now (Ok x) middle → middle ≡ mark m.Comma ∷ new → KeysLead old (found ++ x ∷ []) new
keys_more {old = old} {new = new} {x = x} found b d e o r =
    subst (λ o. Runs Tree plan keys (plan keys) old o) (behind_both found x o)
    (b (behind (x ∷ []) o) (reads (run_of d) (subst (λ ts. Runs Tree plan keys (eat m.Comma (read keys (λ xs. done (x ∷ xs))) (done (x ∷ []))) ts (behind (x ∷ []) o)) (sym e) (eats (keys_on o r)))))

pub keys_end : {old now middle new : List Terminal} {x : Key} (found : List Key) → KeysLead old found now → Gives Tree plan key (plan key) now (Ok x) middle → (new ≡ middle) × ¬ (Begins middle m.Comma)
    → Gives Tree plan keys (plan keys) old (Ok (found ++ x ∷ [])) new
keys_end {middle = middle} {new = new} {x = x} found b d e =
    tree (b (Some (x ∷ [], new)) (reads (run_of d) (leaves e.1 (subst (λ ts. Runs Tree plan keys (done (x ∷ [])) middle (Some (x ∷ [], ts))) (sym e.0) ends))))

pub keys_fail : {old now new other : List Terminal} {e : Refusal} (found : List Key) → KeysLead old found now → Gives Tree plan key (plan key) now (Err e) new → Gives Tree plan keys (plan keys) old (Err e) other
keys_fail found b (no_tree d) = no_tree (b None (breaks d))
keys_fail found b no_memory = no_memory

-- ---- selects with UNION ALL between them

selects_on : {x : Select} {ts : List Terminal} (o : Option (List Select × List Terminal)) → Runs Tree plan selects (plan selects) ts o → Runs Tree plan selects (read selects (λ xs. done (x ∷ xs))) ts (behind (x ∷ []) o)
selects_on None d = breaks d
selects_on (Some p) d = reads d ends

-- behind a select
abbrev more_selects : Select → Plan Tree selects
more_selects x = eat m.Union (expect m.All (read selects (λ xs. done (x ∷ xs)))) (done (x ∷ []))

pub selects_more : {old now middle after new : List Terminal} {x : Select} (found : List Select) → SelectsLead old found now → Gives Tree plan select (plan select) now (Ok x) middle → middle ≡ mark m.Union ∷ after → after ≡ mark m.All ∷ new
    → SelectsLead old (found ++ x ∷ []) new
selects_more {old = old} {after = after} {new = new} {x = x} found b d e f o r =
    subst (λ o. Runs Tree plan selects (plan selects) old o) (behind_both found x o)
    (b (behind (x ∷ []) o) (reads (run_of d) (subst (λ ts. Runs Tree plan selects (more_selects x) ts (behind (x ∷ []) o)) (sym e)
    (eats (subst (λ ts. Runs Tree plan selects (expect m.All (read selects (λ xs. done (x ∷ xs)))) ts (behind (x ∷ []) o)) (sym f) (eats (selects_on o r)))))))

pub selects_end : {old now middle new : List Terminal} {x : Select} (found : List Select) → SelectsLead old found now → Gives Tree plan select (plan select) now (Ok x) middle → (new ≡ middle) × ¬ (Begins middle m.Union)
    → Gives Tree plan selects (plan selects) old (Ok (found ++ x ∷ [])) new
selects_end {middle = middle} {new = new} {x = x} found b d e =
    tree (b (Some (x ∷ [], new)) (reads (run_of d) (leaves e.1 (subst (λ ts. Runs Tree plan selects (done (x ∷ [])) middle (Some (x ∷ [], ts))) (sym e.0) ends))))

pub selects_fail : {old now new other : List Terminal} {e : Refusal} (found : List Select) → SelectsLead old found now → Gives Tree plan select (plan select) now (Err e) new → Gives Tree plan selects (plan selects) old (Err e) other
selects_fail found b (no_tree d) = no_tree (b None (breaks d))
selects_fail found b no_memory = no_memory

-- UNION stands there without ALL
pub selects_break : {old now middle after other : List Terminal} {x : Select} {e : Refusal} (found : List Select) → SelectsLead old found now → Gives Tree plan select (plan select) now (Ok x) middle → middle ≡ mark m.Union ∷ after
    → (e ≡ NoTree) × ¬ (Begins after m.All) → Gives Tree plan selects (plan selects) old (Err e) other
selects_break {old = old} {after = after} {other = other} {x = x} found b d e f =
    subst (λ e. Gives Tree plan selects (plan selects) old (Err e) other) (sym f.0)
    (no_tree (b None (reads (run_of d) (subst (λ ts. Runs Tree plan selects (more_selects x) ts None) (sym e) (eats (leaves f.1 fails))))))

-- ---- clauses

pub passed : {ts new : List Terminal} {r : Result (List FromItem) Refusal} → Gives Tree plan from_items (plan from_items) ts r new → Gives Tree plan from_clause (read from_items (λ xs. done xs)) ts r new
passed (tree d) = tree (reads d ends)
passed (no_tree d) = no_tree (breaks d)
passed no_memory = no_memory

pub passed_keys : {ts new : List Terminal} {r : Result (List Key) Refusal} → Gives Tree plan keys (plan keys) ts r new → Gives Tree plan order_clause (read keys (λ xs. done xs)) ts r new
passed_keys (tree d) = tree (reads d ends)
passed_keys (no_tree d) = no_tree (breaks d)
passed_keys no_memory = no_memory
