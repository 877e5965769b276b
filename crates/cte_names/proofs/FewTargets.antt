-- Each SELECT INTO of a statement has no more targets than the statement has nodes.
use Rattle.std.proofs.Common.{ℕ, ◌≤◌, ◌+◌, arith, ◌≡◌, List, [], ◌∷◌, length}
use Rattle.std.specs.Prelude.{sum}
use Rattle.std.proofs.lemmas.List.Sums.{sum_by-cons}
use Rattle.away_trees.specs.Count.{counting, nodes, nodes_of}
use Rattle.away_trees.specs.declared.statements.Function.{Function}
use Rattle.away_trees.specs.declared.statements.Stmt.{Stmt}
use Rattle.away_trees.specs.declared.statements.Stmt.TheBlock as b
use Rattle.away_trees.specs.StatementAlgebra.{stmt_of, stmts_of, branches_of}
use Rattle.block_forms.specs.Intos.{Into, selecting, intos, row_intos}
use Rattle.type_soundness.specs.Sorts.{Every}
use Rattle.type_soundness.proofs.Lists.{every_append}

sum_cons : (x : ℕ) (xs : List ℕ) → sum (x ∷ xs) ≡ x + sum xs
sum_cons x xs = sum_by-cons (λ k. k) x xs

module _ (most : ℕ) where
  abbrev pub IsFew : Into → Type 0
  IsFew i = length i.targets ≤ most

  mutual
    stmt_few : (x : Stmt) → stmt_of counting x ≤ most → Every IsFew (stmt_of selecting x)
    stmt_few (b.Block' label decls m body closing) h = row_few body (omega (arith, h))
    stmt_few (b.Assign name slot e) h = tt
    stmt_few (b.If' m arms b.None') h = every_append IsFew (row_intos (branches_of selecting arms)) [] (arms_few arms (omega (arith, h))) tt
    stmt_few (b.If' m arms (b.Some' k body)) h =
        every_append IsFew (row_intos (branches_of selecting arms)) (row_intos (stmts_of selecting body)) (arms_few arms (omega (arith, h))) (row_few body (omega (arith, h)))
    stmt_few (b.Cases' m arms b.None') h = every_append IsFew (row_intos (branches_of selecting arms)) [] (arms_few arms (omega (arith, h))) tt
    stmt_few (b.Cases' m arms (b.Some' k body)) h =
        every_append IsFew (row_intos (branches_of selecting arms)) (row_intos (stmts_of selecting body)) (arms_few arms (omega (arith, h))) (row_few body (omega (arith, h)))
    stmt_few (b.Loop' label k m body closing) h = row_few body (omega (arith, h))
    stmt_few (b.Exit label when) h = tt
    stmt_few (b.Continue label when) h = tt
    stmt_few (b.Return e) h = tt
    stmt_few (b.Raise raised) h = tt
    stmt_few (b.Into strict targets query) h = (omega (arith, h), tt)
    stmt_few b.Nothing h = tt

    row_few : {m : _} (body : b.Row_of-Stmt m) → sum (stmts_of counting body) ≤ most → Every IsFew (row_intos (stmts_of selecting body))
    row_few b.end_of-Stmt h = tt
    row_few (b.more_of-Stmt x rest) h =
        let both = sum_cons (stmt_of counting x) (stmts_of counting rest) in
        every_append IsFew (stmt_of selecting x) (row_intos (stmts_of selecting rest)) (stmt_few x (omega (arith, h, both))) (row_few rest (omega (arith, h, both)))

    arms_few : {m : _} (arms : b.Row_of-Arm m) → sum (branches_of counting arms) ≤ most → Every IsFew (row_intos (branches_of selecting arms))
    arms_few b.end_of-Arm h = tt
    arms_few (b.more_of-Arm test m body rest) h =
        let both = sum_cons (1 + sum (stmts_of counting body)) (branches_of counting rest) in
        every_append IsFew (row_intos (stmts_of selecting body)) (row_intos (branches_of selecting rest)) (row_few body (omega (arith, h, both))) (arms_few rest (omega (arith, h, both)))

pub few_targets : (f : Function) (most : ℕ) → nodes f ≤ most → Every (IsFew most) (intos f.body)
unfolding nodes nodes_of intos
few_targets f most h = stmt_few most f.body (omega (arith, h))
