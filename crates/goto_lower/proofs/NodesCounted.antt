-- The nodes of a statement's pattern are those that the limits count.
use Rattle.std.proofs.Common.{◌≡◌, ℕ, ◌+◌, List, [], ◌∷◌, length, Option, Some, None, refl, ap, ◌∙◌, arith}
use Rattle.std.specs.Prelude.{sum}
use Rattle.std.proofs.lemmas.List.Sums.{sum_by-cons}
use Rattle.away_trees.specs.declared.statements.Decl.{Decl}
use Rattle.away_trees.specs.declared.statements.LoopKind.TheVariants as kind
use Rattle.away_trees.specs.declared.statements.Stmt.{Stmt}
use Rattle.away_trees.specs.declared.statements.Stmt.TheBlock as b
use Rattle.away_trees.specs.StatementAlgebra.{stmt_of, stmts_of, branches_of}
use Rattle.away_trees.specs.Count.{counting}
use Rattle.block_forms.specs.Laid.{laying, row_size, arms_size, decls_size}

decls_counted : (ds : List Decl) → (decls_size ds).node ≡ length ds
decls_counted [] = refl
decls_counted (d ∷ ds) = omega (arith, decls_counted ds)

sum_more : (k : ℕ) (ks : List ℕ) → sum (k ∷ ks) ≡ k + sum ks
sum_more k ks = sum_by-cons (λ x. x) k ks

mutual
  pub nodes_counted : (x : Stmt) → (stmt_of laying x).size.node ≡ stmt_of counting x
  nodes_counted (b.Block' label decls m body closing) = omega (arith, decls_counted decls, row_counted body)
  nodes_counted (b.Assign name slot e) = refl
  nodes_counted (b.If' m arms b.None') = omega (arith, arms_counted arms)
  nodes_counted (b.If' m arms (b.Some' k body)) = omega (arith, arms_counted arms, row_counted body)
  nodes_counted (b.Cases' m arms b.None') = omega (arith, arms_counted arms)
  nodes_counted (b.Cases' m arms (b.Some' k body)) = omega (arith, arms_counted arms, row_counted body)
  nodes_counted (b.Loop' label kind.Plain m body closing) = omega (arith, row_counted body)
  nodes_counted (b.Loop' label (kind.While e) m body closing) = omega (arith, row_counted body)
  nodes_counted (b.Loop' label (kind.Count var reverse e1 e2 by) m body closing) = omega (arith, row_counted body)
  nodes_counted (b.Exit label when) = refl
  nodes_counted (b.Continue label when) = refl
  nodes_counted (b.Return e) = refl
  nodes_counted (b.Raise r) = refl
  nodes_counted (b.Into strict targets query) = refl
  nodes_counted b.Nothing = refl

  row_counted : {m : _} → (r : b.Row_of-Stmt m) → (row_size (stmts_of laying r)).node ≡ sum (stmts_of counting r)
  row_counted b.end_of-Stmt = refl
  row_counted (b.more_of-Stmt x rest) = omega (arith, nodes_counted x, row_counted rest, sum_more (stmt_of counting x) (stmts_of counting rest))

  arms_counted : {m : _} → (r : b.Row_of-Arm m) → (arms_size (branches_of laying r)).node ≡ sum (branches_of counting r)
  arms_counted b.end_of-Arm = refl
  arms_counted (b.more_of-Arm test m body rest) = omega (arith, row_counted body, arms_counted rest, sum_more (1 + sum (stmts_of counting body)) (branches_of counting rest))
