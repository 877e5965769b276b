-- A statement is laid out over as many nodes as it has.
use Rattle.std.proofs.Common.{◌≡◌, refl, ℕ, ◌+◌, List, [], ◌∷◌, length, arith}
use Rattle.std.specs.Prelude.{sum}
use Rattle.std.proofs.lemmas.List.Sums.{sum_by-cons}
use Rattle.away_trees.specs.declared.statements.Decl.{Decl}
use Rattle.away_trees.specs.declared.statements.LoopKind.{LoopKind}
use Rattle.away_trees.specs.declared.statements.LoopKind.TheVariants as kind
use Rattle.away_trees.specs.declared.statements.Stmt.{Stmt}
use Rattle.away_trees.specs.declared.statements.Stmt.TheBlock as b
use Rattle.away_trees.specs.Count.{counting}
use Rattle.away_trees.specs.StatementAlgebra.{stmt_of, stmts_of, branches_of}
use Rattle.block_forms.specs.Laid.{laying, decls_size, kind_size, row_size, arms_size}

decls_nodes : (ds : List Decl) → (decls_size ds).node ≡ length ds
decls_nodes [] = refl
decls_nodes (d ∷ ds) = omega (arith, decls_nodes ds)

kind_nodes : (k : LoopKind) → (kind_size k).node ≡ 1
kind_nodes kind.Plain = refl
kind_nodes (kind.While e) = refl
kind_nodes (kind.Count name reverse first last by) = refl

sum_cons : (x : ℕ) (xs : List ℕ) → sum (x ∷ xs) ≡ x + sum xs
sum_cons x xs = sum_by-cons (λ k. k) x xs

mutual
  pub statement_nodes : (x : Stmt) → (stmt_of laying x).size.node ≡ stmt_of counting x
  statement_nodes (b.Block' label decls _ body closing) = omega (arith, decls_nodes decls, row_nodes body)
  statement_nodes (b.Assign name slot e) = refl
  statement_nodes (b.If' _ arms b.None') = omega (arith, arms_nodes arms)
  statement_nodes (b.If' _ arms (b.Some' _ body)) = omega (arith, arms_nodes arms, row_nodes body)
  statement_nodes (b.Cases' _ arms b.None') = omega (arith, arms_nodes arms)
  statement_nodes (b.Cases' _ arms (b.Some' _ body)) = omega (arith, arms_nodes arms, row_nodes body)
  statement_nodes (b.Loop' label k _ body closing) = omega (arith, kind_nodes k, row_nodes body)
  statement_nodes (b.Exit label when) = refl
  statement_nodes (b.Continue label when) = refl
  statement_nodes (b.Return e) = refl
  statement_nodes (b.Raise raised) = refl
  statement_nodes (b.Into strict targets query) = refl
  statement_nodes b.Nothing = refl

  row_nodes : {m : _} → (r : b.Row_of-Stmt m) → (row_size (stmts_of laying r)).node ≡ sum (stmts_of counting r)
  row_nodes b.end_of-Stmt = refl
  row_nodes (b.more_of-Stmt x rest) = omega (arith, statement_nodes x, row_nodes rest, sum_cons (stmt_of counting x) (stmts_of counting rest))

  arms_nodes : {m : _} → (r : b.Row_of-Arm m) → (arms_size (branches_of laying r)).node ≡ sum (branches_of counting r)
  arms_nodes b.end_of-Arm = refl
  arms_nodes (b.more_of-Arm test _ body rest) =
      omega (arith, row_nodes body, arms_nodes rest, sum_cons (1 + sum (stmts_of counting body)) (branches_of counting rest))
