-- What the recursion over statements gives at a node, by what it gives at the parts.
use Rattle.std.proofs.Common.{◌≡◌, refl, ℕ, List, [], ◌∷◌, map, Option, Some, None, ap, option_map}
use Rattle.away_trees.specs.declared.statements.Arm.{Arm}
use Rattle.away_trees.specs.declared.statements.Decl.{Decl}
use Rattle.away_trees.specs.declared.statements.LoopKind.{LoopKind}
use Rattle.away_trees.specs.declared.statements.Stmt.{Stmt}
use Rattle.away_trees.specs.declared.statements.Stmt.TheVariants as stmt
use Rattle.away_trees.specs.declared.statements.Stmt.TheOpen as st
use Rattle.away_trees.specs.declared.statements.Stmt.TheBlock as b
use Rattle.away_trees.specs.StatementAlgebra.{StatementAlgebra, stmt_of, stmts_of, branches_of, branch_of}
use Rattle.away_trees.specs.StatementEquations.{StatementEquations}

stmts_are : (a : StatementAlgebra) (xs : List Stmt) → stmts_of a (b.hidden-the_row-Stmt-0 xs) ≡ map (λ x. stmt_of a x) xs
unfolding b.hidden-the_row-Stmt-0 denote.Hole.Carrier.hidden
stmts_are a [] = refl
stmts_are a (x ∷ xs) = ap (λ ys. stmt_of a x ∷ ys) (stmts_are a xs)

branches_are : (a : StatementAlgebra) (xs : List Arm) → branches_of a (b.hidden-the_row-Arm-1 xs) ≡ map (λ x. branch_of a x) xs
unfolding b.hidden-the_row-Arm-1 b.hidden-the_row-Stmt-0 denote.Hole.Carrier.hidden
branches_are a [] = refl
branches_are a (x ∷ xs) = λ i. a.arm (record { test = x.test; body = stmts_are a x.body i }) ∷ branches_are a xs i

pub of_block : (a : StatementAlgebra) (label : Option (List ℕ)) (decls : List Decl) (body : List Stmt) (closing : Option (List ℕ)) →
    stmt_of a (stmt.Block label decls body closing) ≡ a.stmt (st.Block label decls (map (λ s. stmt_of a s) body) closing)
of_block a label decls body closing = ap (λ xs. a.stmt (st.Block label decls xs closing)) (stmts_are a body)

pub of_loop : (a : StatementAlgebra) (label : Option (List ℕ)) (kind : LoopKind) (body : List Stmt) (closing : Option (List ℕ)) →
    stmt_of a (stmt.Loop label kind body closing) ≡ a.stmt (st.Loop label kind (map (λ s. stmt_of a s) body) closing)
of_loop a label kind body closing = ap (λ xs. a.stmt (st.Loop label kind xs closing)) (stmts_are a body)

pub of_if : (a : StatementAlgebra) (arms : List Arm) (other : Option (List Stmt)) →
    stmt_of a (stmt.If arms other) ≡ a.stmt (st.If (map (λ x. branch_of a x) arms) (option_map (λ body. map (λ s. stmt_of a s) body) other))
of_if a arms None = ap (λ xs. a.stmt (st.If xs None)) (branches_are a arms)
of_if a arms (Some body) = λ i. a.stmt (st.If (branches_are a arms i) (Some (stmts_are a body i)))

pub of_cases : (a : StatementAlgebra) (arms : List Arm) (other : Option (List Stmt)) →
    stmt_of a (stmt.Cases arms other) ≡ a.stmt (st.Cases (map (λ x. branch_of a x) arms) (option_map (λ body. map (λ s. stmt_of a s) body) other))
of_cases a arms None = ap (λ xs. a.stmt (st.Cases xs None)) (branches_are a arms)
of_cases a arms (Some body) = λ i. a.stmt (st.Cases (branches_are a arms i) (Some (stmts_are a body i)))

pub statement_equations : (a : StatementAlgebra) → StatementEquations a
statement_equations a = record {
  block = of_block a;
  assign = λ name slot e. refl;
  if_ = of_if a;
  cases = of_cases a;
  loop = of_loop a;
  exit = λ label when. refl;
  continue = λ label when. refl;
  return = λ e. refl;
  raise = λ raised. refl;
  into = λ strict targets query. refl;
  nothing = refl;
  arm = λ test body. refl;
}
