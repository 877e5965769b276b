-- What parts of printed trees close is what they open, where their own parts do.
use Rattle.std.proofs.Common.{◌≡◌, ℕ, ℤ, pos, negsuc, refl, ap, ◌∙◌, ◌+◌, ◌-◌, max, Bool, true, false, if◌then◌else◌, nat_lt, List, [], ◌∷◌, ◌++◌, Option, Some, None, bytes_eq, codes, append_assoc, arith}
use Rattle.away_grammar.specs.declared.grammar.Mark.{Mark}
use Rattle.away_grammar.specs.declared.grammar.Mark.TheVariants as m
use Rattle.away_grammar.specs.declared.grammar.Level.{Level}
use Rattle.away_grammar.specs.declared.grammar.Level.TheVariants as l
use Rattle.away_values.specs.declared.operators.ChainOp.{ChainOp}
use Rattle.away_values.specs.declared.operators.ChainOp.TheVariants as op
use Rattle.away_values.specs.declared.operators.IntOp.{IntOp}
use Rattle.away_values.specs.declared.operators.IntOp.TheVariants as int
use Rattle.away_values.specs.declared.operators.CmpOp.{CmpOp}
use Rattle.away_values.specs.declared.operators.CmpOp.TheVariants as cmp
use Rattle.away_values.specs.declared.operators.IsTest.{IsTest}
use Rattle.away_values.specs.declared.operators.IsTest.TheVariants as tests
use Rattle.away_trees.specs.declared.queries.Expr.TheOpen as ex
use Rattle.away_trees.specs.Algebra.{head_or}
use Rattle.away_grammar.specs.Terminals.{Terminal, mark, name}
use Rattle.away_grammar.specs.Grammar.{operands, perhaps, rank}
use Rattle.sql_printer.specs.PrintedTerminals.{columns_terminals}
use Rattle.away_grammar.specs.Printing.{Printed, Origin, placed, printing, with_commas, names_terminals, function_terminal, links_terminals, list_terminals, arms_terminals, else_terminals, call_terminals, from_terminals, where_terminals, order_terminals, limit_terminals, selects_terminals, print_item, print_from, print_step, operator_mark, comparison_mark, test_mark}
use Rattle.expanded_sizes.specs.Depths.{begins, counted, depth, is_begin, role}
use Rattle.expanded_sizes.specs.declared.depths.Role.TheVariants.{Ends, Stays}

-- what stands behind doesn't begin with IF, LOOP or CASE

pub record Balanced (xs : List Terminal) : Type 0 where
  pub most : ℕ
  pub is : (rest : List Terminal) → begins rest ≡ false → depth (xs ++ rest) ≡ max most (depth rest)

-- one that is open is closed
pub record Closing (xs : List Terminal) : Type 0 where
  pub most : ℕ
  pub is : (rest : List Terminal) → begins rest ≡ false → depth (xs ++ rest) ≡ max most (depth rest - 1)

pub apart : (a c : List Terminal) → begins a ≡ false → begins c ≡ false → begins (a ++ c) ≡ false
apart [] c h k = k
apart (s ∷ ss) c h k = h

pub nothing : Balanced []
nothing = record { most = 0; is = λ rest h. omega arith }

pub joins : (a : List Terminal) {c : List Terminal} → Balanced a → Balanced c → begins c ≡ false → Balanced (a ++ c)
joins a {c} h k first = record {
  most = max h.most k.most;
  is = λ rest free. ap (λ u. depth u) (append_assoc a c rest) ∙ (h.is (c ++ rest) (apart c rest first free) ∙ (ap (λ n. max h.most n) (k.is rest free)
      ∙ omega arith));
}

pub joins_closing : (a : List Terminal) {c : List Terminal} → Balanced a → Closing c → begins c ≡ false → Closing (a ++ c)
joins_closing a {c} h k first = record {
  most = max h.most k.most;
  is = λ rest free. ap (λ u. depth u) (append_assoc a c rest) ∙ (h.is (c ++ rest) (apart c rest first free) ∙ (ap (λ n. max h.most n) (k.is rest free)
      ∙ omega arith));
}

pub more : {s : Terminal} {ss : List Terminal} → role s ≡ Stays → Balanced ss → Balanced (s ∷ ss)
more {s} {ss} stays h = record { most = h.most; is = λ rest free. ap (λ r. counted (begins (ss ++ rest)) r (depth (ss ++ rest))) stays ∙ h.is rest free }

pub more_closing : {s : Terminal} {ss : List Terminal} → role s ≡ Stays → Closing ss → Closing (s ∷ ss)
more_closing {s} {ss} stays h = record {
  most = h.most;
  is = λ rest free. ap (λ r. counted (begins (ss ++ rest)) r (depth (ss ++ rest))) stays
      ∙ h.is rest free;
}

pub opens : {ss : List Terminal} → Closing ss → Balanced (mark m.Open ∷ ss)
opens h = record { most = h.most + 1; is = λ rest free. ap (λ n. n + 1) (h.is rest free) ∙ omega arith }

pub opens_case : {ss : List Terminal} → Closing ss → Balanced (mark m.Case ∷ ss)
opens_case h = record { most = h.most + 1; is = λ rest free. ap (λ n. n + 1) (h.is rest free) ∙ omega arith }

pub closes : Closing (mark m.Close ∷ [])
closes = record { most = 0; is = λ rest free. omega arith }

pub closes_before : {ss : List Terminal} → Balanced ss → begins ss ≡ false → Closing (mark m.Close ∷ ss)
closes_before h first = record { most = h.most - 1; is = λ rest free. ap (λ n. n - 1) (h.is rest free) ∙ omega arith }

pub ends : Closing (mark m.End ∷ [])
ends = record { most = 0; is = λ rest free. ap (λ u. counted u Ends (depth rest)) free ∙ omega arith }

-- ---- lists of terminals

abbrev pub AllBalanced : List (List Terminal) → Type 0
AllBalanced [] = Unit {0}
AllBalanced (x ∷ xs) = Balanced x × AllBalanced xs

pub comma_balanced : Balanced (mark m.Comma ∷ [])
comma_balanced = more refl nothing

pub placed_by : (c : Bool) (p : Printed) → Balanced p.terminals → Balanced (if c then mark m.Open ∷ (p.terminals ++ mark m.Close ∷ []) else p.terminals)
placed_by true p h = opens (joins_closing p.terminals h closes refl)
placed_by false p h = h

pub placed_balanced : (place : Level) (p : Printed) → Balanced p.terminals → Balanced (placed place p)
placed_balanced place p h = placed_by (nat_lt (rank p.level) (rank place)) p h

pub perhaps_balanced : (n : Bool) (terminal : Mark) {ss : List Terminal} → role (mark terminal) ≡ Stays → Balanced ss → Balanced (perhaps n (mark terminal) ss)
perhaps_balanced true terminal stays h = more stays h
perhaps_balanced false terminal stays h = h

pub perhaps_apart : (n : Bool) (terminal : Mark) (ss : List Terminal) → role (mark terminal) ≡ Stays → begins ss ≡ false
    → begins (perhaps n (mark terminal) ss) ≡ false
perhaps_apart true terminal ss stays h = ap (λ r. is_begin r) stays
perhaps_apart false terminal ss stays h = h

-- ---- operators

pub int_stays : (o : IntOp) → role (mark (operator_mark (op.Int o))) ≡ Stays
int_stays int.Add = refl
int_stays int.Sub = refl
int_stays int.Mul = refl
int_stays int.Div = refl
int_stays int.Rem = refl

pub operator_stays : (o : ChainOp) → role (mark (operator_mark o)) ≡ Stays
operator_stays op.Or = refl
operator_stays op.And = refl
operator_stays op.Concat = refl
operator_stays (op.Int o) = int_stays o
operator_stays (op.Small o) = int_stays o

pub comparison_stays : (o : CmpOp) → role (mark (comparison_mark o)) ≡ Stays
comparison_stays cmp.Eq = refl
comparison_stays cmp.Ne = refl
comparison_stays cmp.Lt = refl
comparison_stays cmp.Le = refl
comparison_stays cmp.Gt = refl
comparison_stays cmp.Ge = refl

pub test_stays : (t : IsTest) → role (mark (test_mark t)) ≡ Stays
test_stays tests.Null = refl
test_stays tests.True = refl
test_stays tests.False = refl

-- a terminal that stays begins nothing
pub stays_apart : (s : Terminal) (ss : List Terminal) → role s ≡ Stays → begins (s ∷ ss) ≡ false
stays_apart s ss stays = ap (λ r. is_begin r) stays

-- ---- lists of parts

abbrev pub BalancedEach : List Printed → Type 0
BalancedEach [] = Unit {0}
BalancedEach (p ∷ ps) = Balanced p.terminals × BalancedEach ps

abbrev pub BalancedLinks : List (ChainOp × Printed) → Type 0
BalancedLinks [] = Unit {0}
BalancedLinks (x ∷ xs) = Balanced x.1.terminals × BalancedLinks xs

abbrev pub BalancedArms : List (Printed × Printed) → Type 0
BalancedArms [] = Unit {0}
BalancedArms (a ∷ more) = Balanced a.0.terminals × Balanced a.1.terminals × BalancedArms more

abbrev pub BalancedOption : Option Printed → Type 0
BalancedOption None = Unit {0}
BalancedOption (Some p) = Balanced p.terminals

abbrev pub BalancedList : Option (List Terminal) → Type 0
BalancedList None = Unit {0}
BalancedList (Some ts) = Balanced ts

pub head_balanced : (ps : List Printed) → BalancedEach ps → Balanced (head_or printing.no_expr ps).terminals
head_balanced [] h = nothing
head_balanced (p ∷ ps) h = h.0

pub first_balanced : (qs : List (List Terminal)) → AllBalanced qs → Balanced (head_or printing.no_query qs)
first_balanced [] h = nothing
first_balanced (q ∷ qs) h = h.0

pub list_balanced : (ps : List Printed) → BalancedEach ps → Balanced (list_terminals ps)
list_balanced [] h = nothing
list_balanced (p ∷ []) h = placed_balanced l.Or p h.0
list_balanced (p ∷ q ∷ ps) h = joins (placed l.Or p) (placed_balanced l.Or p h.0) (more refl (list_balanced (q ∷ ps) h.1)) refl

pub links_apart : (level : Level) (xs : List (ChainOp × Printed)) → begins (links_terminals level xs) ≡ false
links_apart level [] = refl
links_apart level (x ∷ xs) = stays_apart (mark (operator_mark x.0)) (placed (operands level) x.1 ++ links_terminals level xs) (operator_stays x.0)

pub links_balanced : (level : Level) (xs : List (ChainOp × Printed)) → BalancedLinks xs → Balanced (links_terminals level xs)
links_balanced level [] h = nothing
links_balanced level (x ∷ xs) h =
    more (operator_stays x.0) (joins (placed (operands level) x.1) (placed_balanced (operands level) x.1 h.0) (links_balanced level xs h.1)
    (links_apart level xs))

pub arms_apart : (xs : List (Printed × Printed)) → begins (arms_terminals xs) ≡ false
arms_apart [] = refl
arms_apart (a ∷ more) = refl

pub arms_balanced : (xs : List (Printed × Printed)) → BalancedArms xs → Balanced (arms_terminals xs)
arms_balanced [] h = nothing
arms_balanced (a ∷ others) h =
    more refl (joins (placed l.Or a.0) (placed_balanced l.Or a.0 h.0)
    (more refl (joins (placed l.Or a.1) (placed_balanced l.Or a.1 h.1) (arms_balanced others h.2) (arms_apart others))) refl)

pub else_apart : (o : Option Printed) → begins (else_terminals o ++ mark m.End ∷ []) ≡ false
else_apart None = refl
else_apart (Some p) = refl

pub else_balanced : (o : Option Printed) → BalancedOption o → Balanced (else_terminals o)
else_balanced None h = nothing
else_balanced (Some p) h = more refl (placed_balanced l.Or p h)

pub function_by : (a c d : Bool) (n : List ℕ)
    → role (if a then mark m.Coalesce else (if c then mark m.Greatest else (if d then mark m.Least else name n))) ≡ Stays
function_by true c d n = refl
function_by false true d n = refl
function_by false false true n = refl
function_by false false false n = refl

pub function_stays : (n : List ℕ) → role (function_terminal n) ≡ Stays
unfolding function_terminal
function_stays n = function_by (bytes_eq n (codes "coalesce")) (bytes_eq n (codes "greatest")) (bytes_eq n (codes "least")) n

pub call_balanced : (n : List ℕ) (ps : List Printed) → BalancedEach ps → Balanced (call_terminals n ps)
call_balanced n [] h = more refl (opens closes)
call_balanced n (p ∷ ps) h = more (function_stays n) (opens (joins_closing (list_terminals (p ∷ ps)) (list_balanced (p ∷ ps) h) closes refl))

pub names_balanced : (ns : List (List ℕ)) → Balanced (names_terminals ns)
names_balanced [] = nothing
names_balanced (n ∷ []) = more refl nothing
names_balanced (n ∷ k ∷ ns) = more refl (more refl (names_balanced (k ∷ ns)))

pub int_balanced : (n : ℤ) → Balanced (printing.expr (ex.Int n)).terminals
int_balanced (pos n) = more refl nothing
int_balanced (negsuc n) = more refl (more refl nothing)

pub with_commas_balanced : (xs : List (List Terminal)) → AllBalanced xs → Balanced (with_commas xs)
with_commas_balanced [] k = nothing
with_commas_balanced (x ∷ []) k = k.0
with_commas_balanced (x ∷ y ∷ xs) k = joins x k.0 (more refl (with_commas_balanced (y ∷ xs) k.1)) refl

-- selects, none of which begins with IF, LOOP or CASE
abbrev pub AllSelects : List (List Terminal) → Type 0
AllSelects [] = Unit {0}
AllSelects (x ∷ xs) = Balanced x × (begins x ≡ false) × AllSelects xs

pub selects_balanced : (xs : List (List Terminal)) → AllSelects xs → Balanced (selects_terminals xs)
selects_balanced [] k = nothing
selects_balanced (x ∷ []) k = k.0
selects_balanced (x ∷ y ∷ xs) k = joins x k.0 (more refl (more refl (selects_balanced (y ∷ xs) k.2))) refl

pub selects_apart : (xs : List (List Terminal)) → AllSelects xs → begins (selects_terminals xs) ≡ false
selects_apart [] k = refl
selects_apart (x ∷ []) k = k.1
selects_apart (x ∷ y ∷ xs) k = apart x _ k.1 refl

pub from_balanced : (xs : List (List Terminal)) → AllBalanced xs → Balanced (from_terminals xs)
from_balanced [] h = nothing
from_balanced (x ∷ xs) h = more refl (with_commas_balanced (x ∷ xs) h)

pub order_balanced : (xs : List (List Terminal)) → AllBalanced xs → Balanced (order_terminals xs)
order_balanced [] h = nothing
order_balanced (x ∷ xs) h = more refl (more refl (with_commas_balanced (x ∷ xs) h))

pub where_balanced : (o : Option Printed) → BalancedOption o → Balanced (where_terminals o)
where_balanced None h = nothing
where_balanced (Some p) h = more refl (placed_balanced l.Or p h)

pub limit_balanced : (o : Option Printed) → BalancedOption o → Balanced (limit_terminals o)
limit_balanced None h = nothing
limit_balanced (Some p) h = more refl (placed_balanced l.Or p h)

pub limit_apart : (o : Option Printed) → begins (limit_terminals o) ≡ false
limit_apart None = refl
limit_apart (Some p) = refl

pub order_apart : (xs : List (List Terminal)) → begins (order_terminals xs) ≡ false
order_apart [] = refl
order_apart (x ∷ xs) = refl

pub where_apart : (o : Option Printed) → begins (where_terminals o) ≡ false
where_apart None = refl
where_apart (Some p) = refl

pub from_apart : (xs : List (List Terminal)) → begins (from_terminals xs) ≡ false
from_apart [] = refl
from_apart (x ∷ xs) = refl

-- what follows the list of a select
pub clauses_balanced : (from : List (List Terminal)) (filter : Option Printed) (order : List (List Terminal)) (limit : Option Printed)
    → AllBalanced from → BalancedOption filter → AllBalanced order → BalancedOption limit
    → Balanced (from_terminals from ++ (where_terminals filter ++ (order_terminals order ++ limit_terminals limit)))
clauses_balanced from filter order limit a f o k =
    joins (from_terminals from) (from_balanced from a)
    (joins (where_terminals filter) (where_balanced filter f)
    (joins (order_terminals order) (order_balanced order o) (limit_balanced limit k) (limit_apart limit))
    (apart (order_terminals order) _ (order_apart order) (limit_apart limit)))
    (apart (where_terminals filter) _ (where_apart filter) (apart (order_terminals order) _ (order_apart order) (limit_apart limit)))

pub clauses_apart : (from : List (List Terminal)) (filter : Option Printed) (order : List (List Terminal)) (limit : Option Printed)
    → begins (from_terminals from ++ (where_terminals filter ++ (order_terminals order ++ limit_terminals limit))) ≡ false
clauses_apart from filter order limit =
    apart (from_terminals from) _ (from_apart from) (apart (where_terminals filter) _ (where_apart filter) (apart (order_terminals order) _
    (order_apart order) (limit_apart limit)))

pub alias_balanced : (e : Printed) (alias : Option (List ℕ)) → Balanced e.terminals → Balanced (print_item (record { expr = e; alias = alias }))
alias_balanced e None h = joins (placed l.Or e) (placed_balanced l.Or e h) nothing refl
alias_balanced e (Some n) h = joins (placed l.Or e) (placed_balanced l.Or e h) (more refl (more refl nothing)) refl

pub as_by : (c : Bool) (alias : List ℕ) → Balanced (if c then [] else mark m.As ∷ name alias ∷ [])
as_by true alias = nothing
as_by false alias = more refl (more refl nothing)

pub as_apart : (c : Bool) (alias : List ℕ) (ss : List Terminal) → begins ss ≡ false → begins ((if c then [] else mark m.As ∷ name alias ∷ []) ++ ss) ≡ false
as_apart true alias ss h = h
as_apart false alias ss h = refl

pub columns_balanced : (columns : List (List ℕ)) → Balanced (columns_terminals columns)
columns_balanced [] = nothing
columns_balanced (n ∷ ns) = opens (joins_closing (names_terminals (n ∷ ns)) (names_balanced (n ∷ ns)) closes refl)

-- an alias and columns, behind an origin that has an alias of its own, or none
pub from_item_by : (own : Option (List ℕ)) (ts : List Terminal) (alias : List ℕ) (columns : List (List ℕ)) → Balanced ts
    → Balanced (print_from (record { source = record { terminals = ts; own_alias = own }; alias = alias; columns = columns }))
from_item_by None ts alias [] h = joins ts h (more refl (more refl nothing)) refl
from_item_by None ts alias (n ∷ ns) h = joins ts h (more refl (more refl (columns_balanced (n ∷ ns)))) refl
from_item_by (Some own) ts alias [] h =
    joins ts h (joins (if bytes_eq own alias then [] else mark m.As ∷ name alias ∷ []) (as_by (bytes_eq own alias) alias) nothing refl)
    (as_apart (bytes_eq own alias) alias [] refl)
from_item_by (Some own) ts alias (n ∷ ns) h =
    joins ts h (joins (if bytes_eq own alias then [] else mark m.As ∷ name alias ∷ []) (as_by (bytes_eq own alias) alias) (columns_balanced (n ∷ ns)) refl)
    (as_apart (bytes_eq own alias) alias (columns_terminals (n ∷ ns)) refl)

pub from_item_balanced : (o : Origin) (alias : List ℕ) (columns : List (List ℕ)) → Balanced o.terminals
    → Balanced (print_from (record { source = o; alias = alias; columns = columns }))
from_item_balanced o alias columns h = from_item_by o.own_alias o.terminals alias columns h

pub and_last : (xs : List (List Terminal)) (x : List Terminal) → AllSelects xs → Balanced x → begins x ≡ false → AllSelects (xs ++ x ∷ [])
and_last [] x h k first = (k, first, tt)
and_last (y ∷ ys) x h k first = (h.0, h.1, and_last ys x h.2 k first)

pub query_by : (o : Option (List Terminal)) (ss : List (List Terminal)) → BalancedList o → AllSelects ss
    → Balanced (print_step (record { recursive = o; selects = ss }))
query_by None ss h k = selects_balanced ss k
query_by (Some us) ss h k = joins us h (selects_balanced ss k) (selects_apart ss k)
