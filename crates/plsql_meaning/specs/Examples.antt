-- Small functions, written out, whose answers the checker computes.
use Rattle.std.specs.Prelude.{
  ℕ,
  Bool,
  true,
  false,
  pos,
  negsuc,
  List,
  [],
  ◌∷◌,
  map,
  Option,
  Some,
  None,
  codes,
}
use Rattle.away_values.specs.declared.types.Ty.{Ty}
use Rattle.away_values.specs.declared.types.Ty.TheVariants as ty
use Rattle.away_values.specs.declared.values.Value.{Value}
use Rattle.away_values.specs.declared.values.Value.TheVariants as val
use Rattle.away_values.specs.declared.values.Answer.{Answer}
use Rattle.away_values.specs.declared.operators.ChainOp.TheVariants as chain
use Rattle.away_values.specs.declared.operators.IntOp.{IntOp}
use Rattle.away_values.specs.declared.operators.IntOp.TheVariants as op
use Rattle.away_values.specs.declared.operators.CmpOp.TheVariants as cmp
use Rattle.away_trees.specs.declared.queries.Expr.{Expr}
use Rattle.away_trees.specs.declared.queries.Expr.TheVariants as expr
use Rattle.away_trees.specs.declared.queries.Item.{Item}
use Rattle.away_trees.specs.declared.queries.Select.{Select}
use Rattle.away_trees.specs.declared.queries.Expr.TheViews.{roll-Item, roll-Select}
use Rattle.away_trees.specs.declared.statements.Arm.{Arm}
use Rattle.away_trees.specs.declared.statements.Decl.{Decl}
use Rattle.away_trees.specs.declared.statements.Function.{Function}
use Rattle.away_trees.specs.declared.statements.LoopKind.TheVariants as kind
use Rattle.away_trees.specs.declared.statements.Raised.TheVariants as raised
use Rattle.away_trees.specs.declared.statements.Stmt.{Stmt}
use Rattle.away_trees.specs.declared.statements.Stmt.TheVariants as stmt
use Rattle.sql_meaning.specs.Context.{Rows}
use Rattle.sql_meaning.specs.Trees.{col, table_by, select}
use Rattle.plsql_meaning.specs.Functions.{function_answer, over}

abbrev pub int : ℕ → Value
int n = val.Int (pos n)

abbrev pub n : ℕ → Expr
n k = expr.Int (pos k)

abbrev pub slot : ℕ → Expr
slot = expr.Slot

abbrev pub plus : Expr → Expr → Expr
plus a b = expr.Chain a ((chain.Int op.Add, b) ∷ [])

abbrev pub arith : IntOp → Expr → Expr → Expr
arith o a b = expr.Chain a ((chain.Int o, b) ∷ [])

abbrev pub set_slot : ℕ → Expr → Stmt
set_slot i e = stmt.Assign [] (Some i) e

abbrev pub add_to : ℕ → Expr → Stmt
add_to i e = set_slot i (plus (slot i) e)

abbrev pub var : Option Expr → Decl
var d = record { name = []; ty = ty.Bigint; constant = false; not_null = false; default = d }

abbrev pub block : List Decl → List Stmt → Stmt
block decls body = stmt.Block None decls body None

abbrev pub for : Bool → Expr → Expr → Option Expr → List Stmt → Stmt
for reverse first last by body = stmt.Loop None (kind.Count [] reverse first last by) body None

-- no tables, no slot NOT NULL
abbrev pub answer_at : Stmt → ℕ → Answer
answer_at body turns =
    function_answer (over [] []) (record { name = []; strict = false; params = []; result = ty.Bigint; body = body }) [] turns

-- where each slot has its type, and is NOT NULL or not
abbrev pub called_over : Stmt → List (Ty × Bool) → Rows → Value → ℕ → Answer
called_over body slots rows a turns =
    let f : Function = record { name = []; strict = true; params = ([], ty.Bigint) ∷ []; result = ty.Bigint; body = body } in
    function_answer (over (rows ∷ []) slots) f (a ∷ []) turns

-- over slots of bigint
abbrev pub called : Stmt → List Bool → Rows → Value → ℕ → Answer
called body not_null rows a turns =
    called_over body (map (λ strict. (ty.Bigint, strict)) not_null) rows a turns

-- the first slot NOT NULL, and the second an integer
abbrev pub bigint_and_integer : List (Ty × Bool)
bigint_and_integer = (ty.Bigint, true) ∷ (ty.Integer, false) ∷ []

-- DECLARE c bigint := 0; BEGIN FOR i IN first..last BY by LOOP c := c + i; END LOOP; RETURN c; END
abbrev pub summing : Bool → Expr → Expr → Option Expr → Stmt
summing reverse first last by = block (var (Some (n 0)) ∷ []) (for reverse first last by (add_to 0 (slot 1) ∷ []) ∷ stmt.Return (slot 0) ∷ [])

-- the same with c := c + 1
abbrev pub counting : Bool → Expr → Expr → Stmt
counting reverse first last = block (var (Some (n 0)) ∷ []) (for reverse first last None (add_to 0 (n 1) ∷ []) ∷ stmt.Return (slot 0) ∷ [])

-- the greatest and the least integer, and a bound that is converted to integer and doesn't fit
abbrev pub max : Expr
max = n 2147483647

abbrev pub min : Expr
min = expr.Int (negsuc 2147483647)

abbrev pub too_great : Expr
too_great = expr.Cast (n 2147483648) ty.Integer

-- DECLARE c := 0; BEGIN <<a>> LOOP LOOP c := c + 1; EXIT a WHEN c > 3; CONTINUE a WHEN c > 1; END
-- LOOP; END LOOP; RETURN c; END
abbrev pub a_label : Option (List ℕ)
a_label = Some (codes "a")

abbrev pub labelled : Stmt
labelled = block (var (Some (n 0)) ∷ []) (
    stmt.Loop a_label kind.Plain (
    stmt.Loop None kind.Plain (
    add_to 0 (n 1)
    ∷ stmt.Exit a_label (Some (expr.Compare cmp.Gt (slot 0) (n 3)))
    ∷ stmt.Continue a_label (Some (expr.Compare cmp.Gt (slot 0) (n 1))) ∷ []) None ∷ []) None
    ∷ stmt.Return (slot 0) ∷ [])

-- <<a>> BEGIN EXIT a; RETURN 1; END; inside a block, and then RETURN 2
abbrev pub leaving : Stmt
leaving = block [] (stmt.Block a_label [] (stmt.Exit a_label None ∷ stmt.Return (n 1) ∷ []) None ∷ stmt.Return (n 2) ∷ [])

-- CASE WHEN false THEN NULL; END CASE
abbrev pub unmatched : Stmt
unmatched = block [] (stmt.Cases (record { test = expr.Bool false; body = stmt.Nothing ∷ [] } ∷ []) None ∷ [])

-- IF false THEN (a block of two declarations) ELSE NULL END IF; then a declaration of its own,
-- whose slot is the fifth
abbrev pub skipping : Stmt
skipping = block (var (Some (n 5)) ∷ []) (
    stmt.If (record { test = expr.Bool false; body = block (var None ∷ var None ∷ []) [] ∷ [] } ∷ []) (Some (block (var (Some (n 1)) ∷ []) [] ∷ []))
    ∷ block (var (Some (n 7)) ∷ []) (stmt.Return (plus (slot 4) (slot 3)) ∷ []) ∷ [])

-- a is the parameter, b its own: DECLARE b NOT NULL := a; BEGIN b := a - 1 ..
abbrev pub strict_slot : Stmt
strict_slot = block (var (Some (slot 0)) ∷ []) (set_slot 1 expr.Null ∷ stmt.Return (n 1) ∷ [])

abbrev pub raising : Stmt
raising = block [] (stmt.Raise (raised.State (codes "AB123")) ∷ [])

-- SELECT t.c0 INTO STRICT? b FROM t
abbrev pub selecting : Bool → Stmt
selecting strict = block (var None ∷ []) (
    stmt.Into strict (([], Some 1) ∷ []) (select (col 0 0 0 ∷ []) (table_by (48 ∷ []) ∷ []) None)
    ∷ stmt.Return (slot 1) ∷ [])

-- ---- what follows has no more than one variable, which is c := 0

abbrev pub with_counter : List Stmt → Stmt
with_counter body = block (var (Some (n 0)) ∷ []) body

abbrev pub by_zero : Expr
by_zero = arith op.Div (n 1) (n 0)

-- WHILE c < 3 LOOP c := c + 1; END LOOP; RETURN c
abbrev pub rising : Stmt
rising = with_counter (stmt.Loop None (kind.While (expr.Compare cmp.Lt (slot 0) (n 3))) (add_to 0 (n 1) ∷ []) None ∷ stmt.Return (slot 0) ∷ [])

-- WHILE test LOOP NULL; END LOOP
abbrev pub while_only : Expr → Stmt
while_only test = block [] (stmt.Loop None (kind.While test) (stmt.Nothing ∷ []) None ∷ [])

abbrev pub arm_of : Expr → ℕ → Arm
arm_of test k = record { test = test; body = stmt.Return (n k) ∷ [] }

-- IF first THEN RETURN 1; ELSIF second THEN RETURN 2; ELSE RETURN 3; END IF
abbrev pub deciding : Expr → Expr → Stmt
deciding first second = block [] (stmt.If (arm_of first 1 ∷ arm_of second 2 ∷ []) (Some (stmt.Return (n 3) ∷ [])) ∷ [])

-- CASE WHEN test THEN RETURN 1; ELSE RETURN 2; END CASE
abbrev pub choosing : Expr → Stmt
choosing test = block [] (stmt.Cases (arm_of test 1 ∷ []) (Some (stmt.Return (n 2) ∷ [])) ∷ [])

-- IF false THEN RETURN 1; END IF; RETURN 2
abbrev pub going_on : Stmt
going_on = block [] (stmt.If (arm_of (expr.Bool false) 1 ∷ []) None ∷ stmt.Return (n 2) ∷ [])

-- FOR i IN 1..9 LOOP CONTINUE WHEN i % 2 = 0; c := c + i; END LOOP; RETURN c
abbrev pub odd_numbers : Stmt
odd_numbers = with_counter (
    for false (n 1) (n 9) None (stmt.Continue None (Some (expr.Compare cmp.Eq (arith op.Rem (slot 1) (n 2)) (n 0))) ∷ add_to 0 (slot 1) ∷ [])
    ∷ stmt.Return (slot 0) ∷ [])

-- FOR i IN 1..3 LOOP i := i * 10; c := c + i; END LOOP; RETURN c
abbrev pub assigning_its_variable : Stmt
assigning_its_variable = with_counter (
    for false (n 1) (n 3) None (set_slot 1 (arith op.Mul (slot 1) (n 10)) ∷ add_to 0 (slot 1) ∷ [])
    ∷ stmt.Return (slot 0) ∷ [])

-- FOR i IN 1..c LOOP c := c + 5; END LOOP, c being 2 before: the bounds are those at the loop's
-- beginning
abbrev pub moving_its_bound : Stmt
moving_its_bound = block (var (Some (n 2)) ∷ []) (for false (n 1) (slot 0) None (add_to 0 (n 5) ∷ []) ∷ stmt.Return (slot 0) ∷ [])

-- FOR i IN 1..3 LOOP DECLARE x := c; y := x + 1; BEGIN c := y; END; END LOOP; RETURN c: defaults
-- are evaluated at each entry, and see those before them
abbrev pub entering_again : Stmt
entering_again = with_counter (
    for false (n 1) (n 3) None (block (var (Some (slot 0)) ∷ var (Some (plus (slot 2) (n 1))) ∷ []) (set_slot 0 (slot 3) ∷ []) ∷ [])
    ∷ stmt.Return (slot 0) ∷ [])

-- LOOP EXIT WHEN test; RETURN 1; END LOOP; RETURN 2
abbrev pub leaving_when : Expr → Stmt
leaving_when test = block [] (stmt.Loop None kind.Plain (stmt.Exit None (Some test) ∷ stmt.Return (n 1) ∷ []) None ∷ stmt.Return (n 2) ∷ [])

-- LOOP BEGIN EXIT; END; RETURN 1; END LOOP; RETURN 2: EXIT without a label means the loop, not the
-- block
abbrev pub leaving_the_loop : Stmt
leaving_the_loop = block [] (stmt.Loop None kind.Plain (block [] (stmt.Exit None None ∷ []) ∷ stmt.Return (n 1) ∷ []) None ∷ stmt.Return (n 2) ∷ [])

-- DECLARE b := first; BEGIN b := 1; RETURN b; END behind a parameter a
abbrev pub starting_as : Expr → Stmt
starting_as first = block (var (Some first) ∷ []) (set_slot 1 (n 1) ∷ stmt.Return (slot 1) ∷ [])

abbrev pub message : Stmt
message = block [] (stmt.Raise (raised.Message (codes "no")) ∷ [])

abbrev pub ending : Stmt
ending = block [] (stmt.Nothing ∷ [])

-- SELECT t.c0, t.c1 INTO a, b FROM t; RETURN 10 * a + b
abbrev pub selecting_two : Stmt
selecting_two = block (var None ∷ []) (
    stmt.Into false (([], Some 0) ∷ ([], Some 1) ∷ []) (select (col 0 0 0 ∷ col 0 0 1 ∷ []) (table_by (48 ∷ []) ∷ []) None)
    ∷ stmt.Return (plus (arith op.Mul (n 10) (slot 0)) (slot 1)) ∷ [])

abbrev pub item_as : Expr → Option (List ℕ) → Item
item_as e alias = roll-Item (record { expr = e; alias = alias })

-- the same, where the second value is converted to the type of its target
abbrev pub converting_two : Stmt
converting_two =
    let q : Select =
    roll-Select (record {
      list = item_as (col 0 0 0) None ∷ item_as (col 0 0 1) (Some (codes "x")) ∷ [];
      from = table_by (48 ∷ []) ∷ [];
      filter = None;
      order = [];
      limit = None;
    }) in
    block (var None ∷ []) (
    stmt.Into false (([], Some 0) ∷ ([], Some 1) ∷ []) q
    ∷ stmt.Return (plus (arith op.Mul (n 10) (slot 0)) (slot 1)) ∷ [])

-- BEGIN RETURN (the first slot); END
abbrev pub returning_the_first : Stmt
returning_the_first = block [] (stmt.Return (slot 0) ∷ [])
