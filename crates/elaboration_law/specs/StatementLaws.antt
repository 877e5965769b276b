-- What conversion leaves of statements: whatever doesn't look at their expressions.
use Rattle.std.specs.Prelude.{◌≡◌, ℕ, Bool, List, Option}
use Rattle.away_trees.specs.declared.queries.Expr.{Expr}
use Rattle.away_trees.specs.declared.queries.Select.{Select}
use Rattle.away_trees.specs.declared.statements.Decl.{Decl}
use Rattle.away_trees.specs.declared.statements.LoopKind.{LoopKind}
use Rattle.away_trees.specs.declared.statements.Stmt.{Stmt}
use Rattle.away_trees.specs.declared.statements.Stmt.TheOpen as st
use Rattle.away_trees.specs.StatementAlgebra.{StatementAlgebra, stmt_of}
use Rattle.elaboration.specs.Converting.{
  Around,
  Target,
  converted,
  decls_converted,
  into_converted,
  kind_converted,
}

-- slots, labels, targets and numbers of nodes are by such algebras
pub record IgnoresExpressions (a : StatementAlgebra) : Type 0 where
  pub block : (w : Around) (label : Option (List ℕ)) (decls : List Decl) (body : List a.AStmt)
      (closing : Option (List ℕ))
      → a.stmt (st.Block label (decls_converted w decls) body closing)
      ≡ a.stmt (st.Block label decls body closing)
  pub assign : (name : List ℕ) (slot : Option ℕ) (x y : Expr)
      → a.stmt (st.Assign name slot x) ≡ a.stmt (st.Assign name slot y)
  pub loop : (w : Around) (label : Option (List ℕ)) (k : LoopKind) (body : List a.AStmt)
      (closing : Option (List ℕ))
      → a.stmt (st.Loop label (kind_converted w k) body closing)
      ≡ a.stmt (st.Loop label k body closing)
  pub exit : (label : Option (List ℕ)) (x y : Option Expr)
      → a.stmt (st.Exit label x) ≡ a.stmt (st.Exit label y)
  pub continue : (label : Option (List ℕ)) (x y : Option Expr)
      → a.stmt (st.Continue label x) ≡ a.stmt (st.Continue label y)
  pub return : (x y : Expr) → a.stmt (st.Return x) ≡ a.stmt (st.Return y)
  pub into : (w : Around) (strict : Bool) (targets : List Target) (query : Select)
      → a.stmt (st.Into strict targets (into_converted w targets query))
      ≡ a.stmt (st.Into strict targets query)
  pub arm : (x y : Expr) (body : List a.AStmt)
      → a.arm (record { test = x; body = body }) ≡ a.arm (record { test = y; body = body })

abbrev pub StatementsKept : StatementAlgebra → Type 0
StatementsKept a =
    IgnoresExpressions a → (w : Around) (s : Stmt) → stmt_of a (converted w s) ≡ stmt_of a s
