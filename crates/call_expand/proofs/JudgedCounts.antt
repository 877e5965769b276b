-- A function as it is judged is as great as it was.
use Rattle.std.proofs.Common.{◌≡◌, refl, sym, ap, ◌∙◌, subst, ℕ, ◌+◌, ◌≤◌, Bool, List, ◌∷◌, length, map, Option, Some, option_map}
use Rattle.away_trees.specs.Count.{counting, nodes, nodes_of}
use Rattle.away_trees.specs.Limits.{KeepsLimits, counting_loops, counting_variables, loops, loops_of, most_loops, most_nodes, most_variables, variables, variables_of}
use Rattle.away_trees.specs.declared.queries.Expr.{Expr}
use Rattle.away_trees.specs.declared.statements.Function.{Function}
use Rattle.away_trees.specs.declared.statements.Stmt.{Stmt}
use Rattle.away_trees.specs.declared.statements.Stmt.TheBlock as b
use Rattle.away_trees.specs.declared.statements.Stmt.TheOpen as st
use Rattle.away_trees.specs.StatementAlgebra.{StatementAlgebra, stmt_of, stmts_of, branch_of, branches_of, else_of}
use Rattle.away_trees.proofs.StatementEquations.{of_block, of_loop, of_if, of_cases}
use Rattle.away_names.specs.Lookups.{Name}
use Rattle.call_expand.specs.Judging.{judging, judged_stmt}

module _ (a : StatementAlgebra) (same_assign : (n : List ℕ) (slot : Option ℕ) (x y : Expr) → a.stmt (st.Assign n slot x) ≡ a.stmt (st.Assign n slot y))
    (same_return : (x y : Expr) → a.stmt (st.Return x) ≡ a.stmt (st.Return y)) (all : Bool) (names : List Name) (fs : List Function) where
  abbrev J : StatementAlgebra
  J = judging all names fs

  mutual
    pub judged_same : (s : Stmt) → stmt_of a (stmt_of J s) ≡ stmt_of a s
    judged_same (b.Block' label decls s body closing) = of_block a label decls (stmts_of J body) closing ∙ ap (λ xs. a.stmt (st.Block label decls xs closing)) (rows_same body)
    judged_same (b.Assign name slot e) = same_assign name slot _ _
    judged_same (b.If' s arms other) = of_if a (branches_of J arms) (else_of J other) ∙ (λ i. a.stmt (st.If (arms_same arms i) (else_same other i)))
    judged_same (b.Cases' s arms other) = of_cases a (branches_of J arms) (else_of J other) ∙ (λ i. a.stmt (st.Cases (arms_same arms i) (else_same other i)))
    judged_same (b.Loop' label kind s body closing) = of_loop a label kind (stmts_of J body) closing ∙ ap (λ xs. a.stmt (st.Loop label kind xs closing)) (rows_same body)
    judged_same (b.Exit label when) = refl
    judged_same (b.Continue label when) = refl
    judged_same (b.Return e) = same_return _ _
    judged_same (b.Raise raised) = refl
    judged_same (b.Into strict targets query) = refl
    judged_same b.Nothing = refl

    rows_same : {m : _} → (r : b.Row_of-Stmt m) → map (λ s. stmt_of a s) (stmts_of J r) ≡ stmts_of a r
    rows_same b.end_of-Stmt = refl
    rows_same (b.more_of-Stmt s rest) = λ i. judged_same s i ∷ rows_same rest i

    arms_same : {m : _} → (r : b.Row_of-Arm m) → map (λ x. branch_of a x) (branches_of J r) ≡ branches_of a r
    arms_same b.end_of-Arm = refl
    arms_same (b.more_of-Arm test s body rest) = λ i. a.arm (record { test = test; body = rows_same body i }) ∷ arms_same rest i

    else_same : (r : b.Held-Stmt-If-1) → option_map (λ xs. map (λ s. stmt_of a s) xs) (else_of J r) ≡ else_of a r
    else_same b.None' = refl
    else_same (b.Some' s body) = λ i. Some (rows_same body i)

module _ (all : Bool) (names : List Name) (fs : List Function) (s : Stmt) where
  pub same_nodes : nodes_of (judged_stmt all names fs s) ≡ nodes_of s
  unfolding nodes_of judged_stmt
  same_nodes = judged_same counting (λ n slot x y. refl) (λ x y. refl) all names fs s

  pub same_variables : variables_of (judged_stmt all names fs s) ≡ variables_of s
  unfolding variables_of judged_stmt
  same_variables = judged_same counting_variables (λ n slot x y. refl) (λ x y. refl) all names fs s

  pub same_loops : loops_of (judged_stmt all names fs s) ≡ loops_of s
  unfolding loops_of judged_stmt
  same_loops = judged_same counting_loops (λ n slot x y. refl) (λ x y. refl) all names fs s

-- so it keeps the limits
pub judged_keeps : (all : Bool) (names : List Name) (fs : List Function) (f : Function) → KeepsLimits f → KeepsLimits (record f { body = judged_stmt all names fs f.body })
unfolding nodes variables loops
judged_keeps all names fs f h = record {
  few_nodes = subst (λ k. length f.params + k ≤ most_nodes) (sym (same_nodes all names fs f.body)) h.few_nodes;
  few_variables = subst (λ k. length f.params + k ≤ most_variables) (sym (same_variables all names fs f.body)) h.few_variables;
  few_loops = subst (λ k. k ≤ most_loops) (sym (same_loops all names fs f.body)) h.few_loops;
}

pub keeping : (all : Bool) (names : List Name) (fs : List Function) (f g : Function) → g ≡ record f { body = judged_stmt all names fs f.body } → KeepsLimits f → KeepsLimits g
keeping all names fs f g e h = subst KeepsLimits (sym e) (judged_keeps all names fs f h)
