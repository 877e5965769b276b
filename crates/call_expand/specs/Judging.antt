-- How a function that calls others is judged. In the place of each call stands an expression of the
-- callee's result type that asks of each argument the type of its parameter, or the other type of
-- numbers: COALESCE of the argument and a NULL of that type, as the conditions of a CASE whose
-- values are NULL. A call with a wrong number of arguments has a condition more, which isn't
-- boolean.
use Rattle.std.specs.Prelude.{
  pos,
  Bool,
  true,
  false,
  if◌then◌else◌,
  ◌==◌,
  List,
  [],
  ◌∷◌,
  ◌++◌,
  length,
  codes,
  map,
  Option,
  Some,
  None,
}
use Rattle.away_values.specs.declared.operators.IsTest.TheVariants as test
use Rattle.away_values.specs.declared.types.Ty.{Ty}
use Rattle.away_trees.specs.declared.queries.Expr.{Expr}
use Rattle.away_trees.specs.declared.queries.Expr.TheVariants as expr
use Rattle.away_trees.specs.declared.statements.Arm.{Arm}
use Rattle.away_trees.specs.declared.statements.Function.{Function}
use Rattle.away_trees.specs.declared.statements.Stmt.{Stmt}
use Rattle.away_trees.specs.declared.statements.Stmt.TheVariants as stmt
use Rattle.away_trees.specs.declared.statements.Stmt.TheOpen.{Stmt-F}
use Rattle.away_trees.specs.declared.statements.Stmt.TheOpen as st
use Rattle.away_trees.specs.StatementAlgebra.{StatementAlgebra, branch_of, stmt_of}
use Rattle.away_names.specs.Lookups.{Name}
use Rattle.call_meaning.specs.Calls.{Called}
use Rattle.call_expand.specs.Expanding.{function_at, names_of, call_place}

abbrev pub null_of : Ty → Expr
null_of t = expr.Cast expr.Null t

abbrev pub is_null_of : Expr → Expr
is_null_of e = expr.Is e test.Null false

-- the argument has the type, or may be converted to it
abbrev pub asks_type : Ty → Expr → Expr
asks_type t a = is_null_of (expr.Call (codes "coalesce") (a ∷ null_of t ∷ []))

-- an argument that no parameter takes is asked for no type
abbrev pub asks_types : List (Name × Ty) → List Expr → List Expr
asks_types ps [] = []
asks_types [] (a ∷ as_) = is_null_of a ∷ asks_types [] as_
asks_types (p ∷ ps) (a ∷ as_) = asks_type p.1 a ∷ asks_types ps as_

abbrev pub asked : Ty → Expr → Expr × Expr
asked t test = (test, null_of t)

-- as many arguments as parameters
abbrev pub asks_number : Bool → List Expr
asks_number true = []
asks_number false = expr.Int (pos 0) ∷ []

abbrev pub with_arms : Ty → List (Expr × Expr) → Expr
with_arms t [] = null_of t
with_arms t (x ∷ xs) = expr.Cases (x ∷ xs) None

abbrev pub judged_call : Function → List Expr → Expr
judged_call g args = with_arms g.result
    (map (asked g.result) (asks_types g.params args)
    ++ map (asked g.result) (asks_number (length args == length g.params)))

-- where calls stand as a whole: in assignments and RETURNs, or in RETURNs alone, as calls of the
-- function itself
module _ (all : Bool) (names : List Name) (fs : List Function) where
  abbrev pub judged_as : Option Called → Expr → Expr
  judged_as None e = e
  judged_as (Some c) e = judged_call (function_at fs c.part) c.args

  abbrev pub judged_place : Expr → Expr
  judged_place e = judged_as (call_place names e) e

  abbrev pub judged_assigned : Expr → Expr
  judged_assigned e = if all then judged_place e else e

  abbrev pub statement : Stmt-F Stmt Arm → Stmt
  statement (st.Block label decls body closing) = stmt.Block label decls body closing
  statement (st.Assign name slot e) = stmt.Assign name slot (judged_assigned e)
  statement (st.If arms other) = stmt.If arms other
  statement (st.Cases arms other) = stmt.Cases arms other
  statement (st.Loop label kind body closing) = stmt.Loop label kind body closing
  statement (st.Exit label when) = stmt.Exit label when
  statement (st.Continue label when) = stmt.Continue label when
  statement (st.Return e) = stmt.Return (judged_place e)
  statement (st.Raise raised) = stmt.Raise raised
  statement (st.Into strict targets query) = stmt.Into strict targets query
  statement st.Nothing = stmt.Nothing

  abbrev pub judging : StatementAlgebra
  judging = record {
    AStmt = Stmt;
    AnArm = Arm;
    stmt = statement;
    arm = λ a. record { test = a.test; body = a.body };
  }

  unfoldable pub judged_stmt : Stmt → Stmt
  judged_stmt s = stmt_of judging s

  unfoldable pub judged_arm : Arm → Arm
  judged_arm a = branch_of judging a

-- the function as it is judged
abbrev pub judged : List Function → Function → Function
judged fs f = record f { body = judged_stmt true (names_of fs) fs f.body }

abbrev pub judged_alone : List Name → Function → Function
judged_alone names f = record f { body = judged_stmt false names (f ∷ []) f.body }
