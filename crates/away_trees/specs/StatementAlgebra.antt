-- One recursion over statements, for every definition that goes by the parts of a statement: an
-- algebra has one step for a statement and one for an arm. Expressions and queries in statements
-- stay as they are.
use Rattle.std.specs.Prelude.{List, [], ◌∷◌, Option, Some, None, map}
use Rattle.away_trees.specs.declared.statements.Arm.{Arm}
use Rattle.away_trees.specs.declared.statements.Stmt.{Stmt}
use Rattle.away_trees.specs.declared.statements.Stmt.TheOpen.{Stmt-F, Arm-F}
use Rattle.away_trees.specs.declared.statements.Stmt.TheOpen as st
use Rattle.away_trees.specs.declared.statements.Stmt.TheBlock as b

-- what stands for a statement and for an arm, and the steps
pub record StatementAlgebra : Type 1 where
  pub AStmt : Type 0
  pub AnArm : Type 0
  pub stmt : Stmt-F AStmt AnArm → AStmt
  pub arm : Arm-F AStmt AnArm → AnArm

abbrev mutual
  pub stmt_of : (a : StatementAlgebra) → Stmt → a.AStmt
  stmt_of a (b.Block' label decls s body closing) = a.stmt (st.Block label decls (stmts_of a body) closing)
  stmt_of a (b.Assign name slot e) = a.stmt (st.Assign name slot e)
  stmt_of a (b.If' s arms other) = a.stmt (st.If (branches_of a arms) (else_of a other))
  stmt_of a (b.Cases' s arms other) = a.stmt (st.Cases (branches_of a arms) (else_of a other))
  stmt_of a (b.Loop' label kind s body closing) = a.stmt (st.Loop label kind (stmts_of a body) closing)
  stmt_of a (b.Exit label when) = a.stmt (st.Exit label when)
  stmt_of a (b.Continue label when) = a.stmt (st.Continue label when)
  stmt_of a (b.Return e) = a.stmt (st.Return e)
  stmt_of a (b.Raise raised) = a.stmt (st.Raise raised)
  stmt_of a (b.Into strict targets query) = a.stmt (st.Into strict targets query)
  stmt_of a b.Nothing = a.stmt st.Nothing

  pub stmts_of : {m : _} → (a : StatementAlgebra) → b.Row_of-Stmt m → List a.AStmt
  stmts_of a b.end_of-Stmt = []
  stmts_of a (b.more_of-Stmt s rest) = stmt_of a s ∷ stmts_of a rest

  pub branches_of : {m : _} → (a : StatementAlgebra) → b.Row_of-Arm m → List a.AnArm
  branches_of a b.end_of-Arm = []
  branches_of a (b.more_of-Arm test s body rest) = a.arm (record { test = test; body = stmts_of a body }) ∷ branches_of a rest

  pub else_of : (a : StatementAlgebra) → b.Held-Stmt-If-1 → Option (List a.AStmt)
  else_of a b.None' = None
  else_of a (b.Some' s body) = Some (stmts_of a body)

abbrev pub branch_of : (a : StatementAlgebra) → Arm → a.AnArm
branch_of a x = a.arm (record { test = x.test; body = map (λ s. stmt_of a s) x.body })
