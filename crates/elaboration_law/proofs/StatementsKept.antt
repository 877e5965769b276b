-- A statement algebra that ignores expressions gives the same of a converted statement.
use Rattle.std.proofs.Common.{◌≡◌, refl, ap, ◌∙◌, ◌+◌, sum, ◌∷◌, map, Some, option_map}
use Rattle.away_trees.specs.declared.statements.Stmt.{Stmt}
use Rattle.away_trees.specs.declared.statements.Stmt.TheOpen as st
use Rattle.away_trees.specs.declared.statements.Stmt.TheBlock as b
use Rattle.std.proofs.lemmas.List.{length-map}
use Rattle.away_trees.specs.Count.{counting, nodes_of}
use Rattle.away_trees.specs.StatementAlgebra.{StatementAlgebra, stmt_of, stmts_of, branches_of, branch_of, else_of}
use Rattle.away_trees.proofs.StatementEquations as eq
use Rattle.elaboration.specs.Converting.{Around, all_by, converted, converting, decl_converted, decls_converted, for_slot, kind_converted, marked, slot_type}
use Rattle.elaboration_law.specs.StatementLaws.{IgnoresExpressions, StatementsKept}

module _ (a : StatementAlgebra) (ignores : IgnoresExpressions a) (w : Around) where
  mutual
    kept : (s : Stmt) → stmt_of a (stmt_of converting s w) ≡ stmt_of a s
    kept (b.Block' label decls s body closing) =
        eq.of_block a label (decls_converted w decls) (all_by w (stmts_of converting body)) closing
        ∙ ap (λ ss. a.stmt (st.Block label (decls_converted w decls) ss closing)) (all_kept body)
        ∙ ignores.block w label decls (stmts_of a body) closing
    kept (b.Assign name slot e) = ignores.assign name slot (for_slot (slot_type w slot) w.places e) e
    kept (b.If' s arms other) =
        eq.of_if a (all_by w (branches_of converting arms)) (option_map (all_by w) (else_of converting other))
        ∙ (λ i. a.stmt (st.If (arms_kept arms i) (else_kept other i)))
    kept (b.Cases' s arms other) =
        eq.of_cases a (all_by w (branches_of converting arms)) (option_map (all_by w) (else_of converting other))
        ∙ (λ i. a.stmt (st.Cases (arms_kept arms i) (else_kept other i)))
    kept (b.Loop' label kind s body closing) =
        eq.of_loop a label (kind_converted w kind) (all_by w (stmts_of converting body)) closing
        ∙ ap (λ ss. a.stmt (st.Loop label (kind_converted w kind) ss closing)) (all_kept body)
        ∙ ignores.loop w label kind (stmts_of a body) closing
    kept (b.Exit label when) = ignores.exit label _ when
    kept (b.Continue label when) = ignores.continue label _ when
    kept (b.Return e) = ignores.return _ e
    kept (b.Raise raised) = refl
    kept (b.Into strict targets query) = ignores.into w strict targets query
    kept b.Nothing = refl

    all_kept : {m : _} (ss : b.Row_of-Stmt m) → map (λ s. stmt_of a s) (all_by w (stmts_of converting ss)) ≡ stmts_of a ss
    all_kept b.end_of-Stmt = refl
    all_kept (b.more_of-Stmt s rest) = λ i. kept s i ∷ all_kept rest i

    arms_kept : {m : _} (arms : b.Row_of-Arm m) → map (λ x. branch_of a x) (all_by w (branches_of converting arms)) ≡ branches_of a arms
    arms_kept b.end_of-Arm = refl
    arms_kept (b.more_of-Arm test s body rest) =
        λ i. (ap (λ ss. a.arm (record { test = marked w.places test; body = ss })) (all_kept body) ∙ ignores.arm (marked w.places test) test (stmts_of a body)) i ∷ arms_kept rest i

    else_kept : (other : b.Held-Stmt-If-1) → option_map (λ body. map (λ s. stmt_of a s) body) (option_map (all_by w) (else_of converting other)) ≡ else_of a other
    else_kept b.None' = refl
    else_kept (b.Some' s body) = ap Some (all_kept body)

pub statements_kept : (a : StatementAlgebra) → StatementsKept a
unfolding converted
statements_kept a ignores w s = kept a ignores w s

-- ---- the number of nodes

-- declarations and targets are as many
counting_ignores : IgnoresExpressions counting
counting_ignores = record {
  block = λ w label decls body closing. ap (λ n. 1 + n + sum body) (length-map decls (decl_converted w));
  assign = λ name slot x y. refl;
  loop = λ w label k body closing. refl;
  exit = λ label x y. refl;
  continue = λ label x y. refl;
  return = λ x y. refl;
  into = λ w strict targets query. refl;
  arm = λ x y body. refl;
}

pub nodes_kept : (w : Around) (s : Stmt) → nodes_of (converted w s) ≡ nodes_of s
unfolding nodes_of
nodes_kept w s = statements_kept counting counting_ignores w s
