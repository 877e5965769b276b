-- What the recursion over statements gives at each kind of node: the step of that kind, over what
-- it gives at the parts.
use Rattle.std.specs.Prelude.{◌≡◌, ℕ, Bool, List, Option, map, option_map}
use Rattle.away_trees.specs.declared.queries.Expr.{Expr}
use Rattle.away_trees.specs.declared.queries.Select.{Select}
use Rattle.away_trees.specs.declared.statements.Arm.{Arm}
use Rattle.away_trees.specs.declared.statements.Decl.{Decl}
use Rattle.away_trees.specs.declared.statements.LoopKind.{LoopKind}
use Rattle.away_trees.specs.declared.statements.Raised.{Raised}
use Rattle.away_trees.specs.declared.statements.Stmt.{Stmt}
use Rattle.away_trees.specs.declared.statements.Stmt.TheVariants as stmt
use Rattle.away_trees.specs.declared.statements.Stmt.TheOpen.{Stmt-F, Arm-F}
use Rattle.away_trees.specs.declared.statements.Stmt.TheOpen as st
use Rattle.away_trees.specs.StatementAlgebra.{StatementAlgebra, stmt_of, branch_of}

-- the steps of an algebra, over carriers that are given one by one
pub record StatementSteps (AStmt AnArm : Type 0) : Type 0 where
  pub stmt : Stmt-F AStmt AnArm → AStmt
  pub arm : Arm-F AStmt AnArm → AnArm

abbrev pub statement_algebra : {AStmt AnArm : Type 0} → StatementSteps AStmt AnArm → StatementAlgebra
statement_algebra {AStmt} {AnArm} s = record { AStmt = AStmt; AnArm = AnArm; stmt = s.stmt; arm = s.arm }

pub record StatementEquations (a : StatementAlgebra) : Type 0 where
  pub block : (label : Option (List ℕ)) (decls : List Decl) (body : List Stmt) (closing : Option (List ℕ)) →
      stmt_of a (stmt.Block label decls body closing) ≡ a.stmt (st.Block label decls (map (λ s. stmt_of a s) body) closing)
  pub assign : (name : List ℕ) (slot : Option ℕ) (e : Expr) → stmt_of a (stmt.Assign name slot e) ≡ a.stmt (st.Assign name slot e)
  pub if_ : (arms : List Arm) (other : Option (List Stmt)) →
      stmt_of a (stmt.If arms other) ≡ a.stmt (st.If (map (λ x. branch_of a x) arms) (option_map (λ body. map (λ s. stmt_of a s) body) other))
  pub cases : (arms : List Arm) (other : Option (List Stmt)) →
      stmt_of a (stmt.Cases arms other) ≡ a.stmt (st.Cases (map (λ x. branch_of a x) arms) (option_map (λ body. map (λ s. stmt_of a s) body) other))
  pub loop : (label : Option (List ℕ)) (kind : LoopKind) (body : List Stmt) (closing : Option (List ℕ)) →
      stmt_of a (stmt.Loop label kind body closing) ≡ a.stmt (st.Loop label kind (map (λ s. stmt_of a s) body) closing)
  pub exit : (label : Option (List ℕ)) (when : Option Expr) → stmt_of a (stmt.Exit label when) ≡ a.stmt (st.Exit label when)
  pub continue : (label : Option (List ℕ)) (when : Option Expr) → stmt_of a (stmt.Continue label when) ≡ a.stmt (st.Continue label when)
  pub return : (e : Expr) → stmt_of a (stmt.Return e) ≡ a.stmt (st.Return e)
  pub raise : (raised : Raised) → stmt_of a (stmt.Raise raised) ≡ a.stmt (st.Raise raised)
  pub into : (strict : Bool) (targets : List (List ℕ × Option ℕ)) (query : Select) →
      stmt_of a (stmt.Into strict targets query) ≡ a.stmt (st.Into strict targets query)
  pub nothing : stmt_of a stmt.Nothing ≡ a.stmt st.Nothing
  -- an arm's value in a list of arms is the step over its test and the values of its statements
  pub arm : (test : Expr) (body : List Stmt) → branch_of a (record { test = test; body = body })
      ≡ a.arm (record { test = test; body = map (λ s. stmt_of a s) body })
