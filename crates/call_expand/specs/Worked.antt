-- Small functions as they are written, their expansions and untailed forms, and what these answer,
-- computed.
use Rattle.std.specs.Prelude.{
  ℕ,
  pos,
  Bool,
  true,
  false,
  List,
  [],
  ◌∷◌,
  map,
  option_map,
  Option,
  Some,
  None,
  codes,
}
use Rattle.away_values.specs.declared.types.Ty.TheVariants as ty
use Rattle.away_values.specs.declared.operators.ChainOp.TheVariants as chain
use Rattle.away_values.specs.declared.operators.IntOp.{IntOp}
use Rattle.away_values.specs.declared.operators.IntOp.TheVariants as op
use Rattle.away_values.specs.declared.operators.CmpOp.TheVariants as cmp
use Rattle.away_values.specs.declared.operators.IsTest.TheVariants as test
use Rattle.away_values.specs.declared.values.Answer.{Answer}
use Rattle.away_values.specs.declared.values.Value.{Value}
use Rattle.away_trees.specs.declared.queries.Expr.{Expr}
use Rattle.away_trees.specs.declared.queries.Expr.TheVariants as expr
use Rattle.away_trees.specs.declared.schemas.Schema.{Schema}
use Rattle.away_trees.specs.declared.statements.Decl.{Decl}
use Rattle.away_trees.specs.declared.statements.Function.{Function}
use Rattle.away_trees.specs.declared.statements.LoopKind.TheVariants as kind
use Rattle.away_trees.specs.declared.statements.Raised.TheVariants as raised
use Rattle.away_trees.specs.declared.statements.Stmt.{Stmt}
use Rattle.away_trees.specs.declared.statements.Stmt.TheVariants as stmt
use Rattle.away_names.specs.Lookups.{Name}
use Rattle.away_names.specs.declared.rule.Rule.{Rule}
use Rattle.away_types.specs.declared.finding.Finding.{Finding}
use Rattle.away_types.specs.FunctionChecks.{function_note, resolved_function, slots_of}
use Rattle.away_types.specs.TypedSlots.{typed_slots}
use Rattle.call_meaning.specs.Calls.{calls, rec}
use Rattle.plsql_meaning.specs.Functions.{function_answer, over}
use Rattle.call_expand.specs.Expanding.{expanded_with, main_body}
use Rattle.call_expand.specs.Judging.{judged}
use Rattle.call_expand.specs.Parts.{parts_of, self_part}
use Rattle.call_expand.specs.Placing.{misplaces}
use Rattle.call_expand.specs.Untailing.{old_body, untailed_with}

abbrev pub no_tables : Schema
no_tables = record { tables = [] }

-- ---- pieces

abbrev pub named : List ℕ → Expr
named n = expr.Named n

abbrev pub int : ℕ → Expr
int k = expr.Int (pos k)

abbrev pub with_op : IntOp → Expr → Expr → Expr
with_op o a b = expr.Chain a ((chain.Int o, b) ∷ [])

abbrev pub plus : Expr → Expr → Expr
plus = with_op op.Add

abbrev pub minus : Expr → Expr → Expr
minus = with_op op.Sub

abbrev pub set : List ℕ → Expr → Stmt
set n e = stmt.Assign n None e

abbrev pub decl : List ℕ → Option Expr → Decl
decl n default = record {
  name = n;
  ty = ty.Bigint;
  constant = false;
  not_null = false;
  default = default;
}

abbrev pub block : List Decl → List Stmt → Stmt
block decls body = stmt.Block None decls body None

abbrev pub labelled : List ℕ → List Decl → List Stmt → Stmt
labelled l decls body = stmt.Block (Some l) decls body None

abbrev pub for : List ℕ → Expr → Expr → List Stmt → Stmt
for i first last body = stmt.Loop None (kind.Count i false first last None) body None

abbrev pub unless : Expr → Stmt → Stmt
unless e s = stmt.If (record { test = e; body = s ∷ [] } ∷ []) None

abbrev pub is_zero : List ℕ → Expr
is_zero n = expr.Compare cmp.Eq (named n) (int 0)

abbrev pub function_of : List ℕ → Bool → List (List ℕ) → Stmt → Function
function_of name strict params body = record {
  name = name;
  strict = strict;
  params = map (λ p. (p, ty.Bigint)) params;
  result = ty.Bigint;
  body = body;
}

abbrev pub raise : Stmt
raise = stmt.Raise (raised.State (codes "2F005"))

-- ---- what a written function, and a program of written functions, answer

abbrev pub written_at : Function → List Value → ℕ → Answer
written_at f args turns = function_answer (over [] (typed_slots (slots_of no_tables f)))
    (resolved_function no_tables f) args turns

abbrev pub program_at : List Function → List Value → ℕ → Answer
program_at fs args turns = calls (parts_of no_tables fs) 0 [] args turns

abbrev pub recursive_at : Function → List Value → ℕ → Answer
recursive_at f args turns = rec (self_part no_tables f) [] args turns

-- ---- one function that calls another twice

-- g(a): DECLARE s bigint := 0; BEGIN FOR i IN 1..a LOOP s := s + i; END LOOP; RETURN s; END
abbrev pub summing : Function
summing = function_of (codes "g") false (codes "a" ∷ [])
    (block (decl (codes "s") (Some (int 0)) ∷ [])
    (for (codes "i") (int 1) (named (codes "a"))
    (set (codes "s") (plus (named (codes "s")) (named (codes "i"))) ∷ [])
    ∷ stmt.Return (named (codes "s")) ∷ []))

-- m(n): DECLARE x bigint; BEGIN x := g(n); RETURN g(x); END
abbrev pub twice : Function
twice = function_of (codes "m") false (codes "n" ∷ [])
    (block (decl (codes "x") None ∷ [])
    (set (codes "x") (expr.Call (codes "g") (named (codes "n") ∷ []))
    ∷ stmt.Return (expr.Call (codes "g") (named (codes "x") ∷ [])) ∷ []))

abbrev pub twelve : List Name
twelve = codes "x1" ∷ codes "x2" ∷ codes "x3" ∷ codes "x4" ∷ codes "x5" ∷ codes "x6" ∷ codes "x7"
    ∷ codes "x8" ∷ codes "x9" ∷ codes "x10" ∷ codes "x11" ∷ codes "x12" ∷ []

abbrev pub expanded : List Function → Function
expanded fs = expanded_with twelve fs

abbrev pub names_of_expanded : List Function → ℕ
names_of_expanded fs = (main_body twelve fs).next

-- r, the label, the parameter, s and i of one call
abbrev pub called_with : Name → Name → Name → Name → Name → Expr → Stmt → Stmt
called_with r l a s i e tail = block (decl r None ∷ [])
    (labelled l (decl a (Some e) ∷ [])
    (block (decl s (Some (int 0)) ∷ [])
    (for i (int 1) (named a) (set s (plus (named s) (named i)) ∷ [])
    ∷ block [] (set r (named s) ∷ stmt.Exit (Some l) None ∷ []) ∷ [])
    ∷ raise ∷ [])
    ∷ tail ∷ [])

abbrev pub twice_expanded : Function
twice_expanded = function_of (codes "m") false (codes "x1" ∷ [])
    (block (decl (codes "x2") None ∷ [])
    (called_with (codes "x3") (codes "x4") (codes "x5") (codes "x6") (codes "x7")
    (named (codes "x1")) (set (codes "x2") (named (codes "x3")))
    ∷ called_with (codes "x8") (codes "x9") (codes "x10") (codes "x11") (codes "x12")
    (named (codes "x2")) (stmt.Return (named (codes "x8"))) ∷ []))

-- ---- hidden variables and labels

-- f(a): DECLARE a := a + 1; BEGIN DECLARE a := a + a; BEGIN RETURN a; END; END
abbrev pub hiding : Function
hiding = function_of (codes "f") false (codes "a" ∷ [])
    (block (decl (codes "a") (Some (plus (named (codes "a")) (int 1))) ∷ [])
    (block (decl (codes "a") (Some (plus (named (codes "a")) (named (codes "a")))) ∷ [])
    (stmt.Return (named (codes "a")) ∷ []) ∷ []))

abbrev pub hiding_expanded : Function
hiding_expanded = function_of (codes "f") false (codes "x1" ∷ [])
    (block (decl (codes "x2") (Some (plus (named (codes "x1")) (int 1))) ∷ [])
    (block (decl (codes "x3") (Some (plus (named (codes "x2")) (named (codes "x2")))) ∷ [])
    (stmt.Return (named (codes "x3")) ∷ []) ∷ []))

-- <<l>> LOOP <<l>> LOOP EXIT l; END LOOP l; EXIT l; END LOOP l
abbrev pub two_loops : List ℕ → List ℕ → Stmt
two_loops outer inner =
    stmt.Loop (Some outer) kind.Plain (stmt.Loop (Some inner) kind.Plain
    (stmt.Exit (Some inner) None ∷ []) (Some inner) ∷ stmt.Exit (Some outer) None ∷ []) (Some outer)

abbrev pub looping : List ℕ → List ℕ → Function
looping outer inner = function_of (codes "f") false []
    (block [] (two_loops outer inner ∷ stmt.Return (int 1) ∷ []))

-- ---- STRICT callees, and a call in a callee's RETURN

-- g(a, b): BEGIN RETURN 1; END, STRICT
abbrev pub strict_one : Function
strict_one = function_of (codes "g") true (codes "a" ∷ codes "b" ∷ [])
    (block [] (stmt.Return (int 1) ∷ []))

-- h(a): BEGIN RETURN g(a, 2); END
abbrev pub calling_strict : Function
calling_strict = function_of (codes "h") false (codes "a" ∷ [])
    (block [] (stmt.Return (expr.Call (codes "g") (named (codes "a") ∷ int 2 ∷ [])) ∷ []))

-- m(n): BEGIN RETURN h(n); END
abbrev pub calling_two : Function
calling_two = function_of (codes "m") false (codes "n" ∷ [])
    (block [] (stmt.Return (expr.Call (codes "h") (named (codes "n") ∷ [])) ∷ []))

abbrev pub three : List Function
three = calling_two ∷ calling_strict ∷ strict_one ∷ []

abbrev pub is_null : List ℕ → Expr
is_null n = expr.Is (named n) test.Null false

abbrev pub left_with : List ℕ → List ℕ → Expr → Stmt
left_with r l e = block [] (set r e ∷ stmt.Exit (Some l) None ∷ [])

abbrev pub three_expanded : Function
three_expanded = function_of (codes "m") false (codes "x1" ∷ [])
    (block []
    (block (decl (codes "x2") None ∷ [])
    (labelled (codes "x3") (decl (codes "x4") (Some (named (codes "x1"))) ∷ [])
    (block []
    (block (decl (codes "x5") None ∷ [])
    (labelled (codes "x6") (decl (codes "x7") (Some (named (codes "x4")))
    ∷ decl (codes "x8") (Some (int 2)) ∷ [])
    (unless (expr.Chain (is_null (codes "x7")) ((chain.Or, is_null (codes "x8")) ∷ []))
    (stmt.Exit (Some (codes "x6")) None)
    ∷ block [] (left_with (codes "x5") (codes "x6") (int 1) ∷ []) ∷ raise ∷ [])
    ∷ left_with (codes "x2") (codes "x3") (named (codes "x5")) ∷ []) ∷ [])
    ∷ raise ∷ [])
    ∷ stmt.Return (named (codes "x2")) ∷ []) ∷ []))

-- ---- self calls

-- f(a, acc): BEGIN IF a = 0 THEN RETURN acc; END IF; RETURN f(a - 1, acc + a); END
abbrev pub descending : Bool → Expr → Function
descending strict e = function_of (codes "f") strict (codes "a" ∷ codes "acc" ∷ [])
    (block []
    (unless (is_zero (codes "a")) (stmt.Return (named (codes "acc")))
    ∷ stmt.Return (expr.Call (codes "f") (minus (named (codes "a")) (int 1) ∷ e ∷ [])) ∷ []))

abbrev pub adding : Expr
adding = plus (named (codes "acc")) (named (codes "a"))

abbrev pub untailed : Function → Function
untailed f = untailed_with twelve f

abbrev pub names_of_untailed : Function → ℕ
names_of_untailed f = (old_body twelve f).next

abbrev pub descending_untailed : Function
descending_untailed = function_of (codes "f") false (codes "x1" ∷ codes "x2" ∷ [])
    (block (decl (codes "x3") None ∷ decl (codes "x4") None ∷ [])
    (stmt.Loop (Some (codes "x5")) kind.Plain
    (block []
    (unless (is_zero (codes "x1")) (stmt.Return (named (codes "x2")))
    ∷ block []
    (set (codes "x3") (minus (named (codes "x1")) (int 1))
    ∷ set (codes "x4") (plus (named (codes "x2")) (named (codes "x1")))
    ∷ set (codes "x1") (named (codes "x3")) ∷ set (codes "x2") (named (codes "x4"))
    ∷ stmt.Continue (Some (codes "x5")) None ∷ []) ∷ [])
    ∷ raise ∷ []) None ∷ []))

-- a function that has the name of an operator's function: BEGIN RETURN length(s); END
abbrev pub named_length : Function
named_length = function_of (codes "length") false (codes "s" ∷ [])
    (block [] (stmt.Return (expr.Call (codes "length") (named (codes "s") ∷ [])) ∷ []))

abbrev pub length_untailed : Function
length_untailed = function_of (codes "length") false (codes "x1" ∷ [])
    (block (decl (codes "x2") None ∷ [])
    (stmt.Loop (Some (codes "x3")) kind.Plain
    (block [] (stmt.Return (expr.Call (codes "length") (named (codes "x1") ∷ [])) ∷ [])
    ∷ raise ∷ []) None ∷ []))

-- ---- numbers of both types

-- g(a integer): BEGIN RETURN a; END, of type bigint
abbrev pub of_integer : Function
of_integer = record (function_of (codes "g") false []
    (block [] (stmt.Return (named (codes "a")) ∷ [])))
    { params = (codes "a", ty.Integer) ∷ [] }

-- m(n): DECLARE x integer; BEGIN x := g(e); RETURN x; END
abbrev pub into_integer : Expr → Function
into_integer e = function_of (codes "m") false (codes "n" ∷ [])
    (block (record (decl (codes "x") None) { ty = ty.Integer } ∷ [])
    (set (codes "x") (expr.Call (codes "g") (e ∷ [])) ∷ stmt.Return (named (codes "x")) ∷ []))

abbrev pub through_integer : Expr → List Function
through_integer e = into_integer e ∷ of_integer ∷ []

-- f(a integer): BEGIN RETURN f(3000000000); END
abbrev pub calling_too_great : Function
calling_too_great = record (function_of (codes "f") false []
    (block [] (stmt.Return (expr.Call (codes "f") (int 3000000000 ∷ [])) ∷ [])))
    { params = (codes "a", ty.Integer) ∷ [] }

-- ---- refusals

-- m(n): BEGIN RETURN e; END
abbrev pub returning : Expr → Function
returning e = function_of (codes "m") false (codes "n" ∷ []) (block [] (stmt.Return e ∷ []))

abbrev pub calls_g : List Expr → Expr
calls_g args = expr.Call (codes "g") args

abbrev pub misplaced : Expr → Bool
misplaced e = misplaces (codes "m" ∷ codes "g" ∷ []) (returning e).body

abbrev pub rule_of : Expr → Option Rule
rule_of e = option_map (λ (f : Finding). f.rule)
    (function_note no_tables (judged (returning e ∷ summing ∷ []) (returning e))).first
