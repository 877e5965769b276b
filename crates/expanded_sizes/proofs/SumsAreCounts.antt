-- The counts of a function in which calls are expanded are the sums.
use Rattle.std.proofs.Common.{◌≡◌, refl, sym, ap, ◌∙◌, subst, ℕ, ◌+◌, false, List, [], ◌∷◌, suc, length, Some, None, arith}
use Rattle.away_trees.specs.declared.statements.Function.{Function}
use Rattle.away_trees.specs.declared.statements.LoopKind.TheVariants as kind
use Rattle.away_trees.specs.declared.statements.Stmt.{Stmt}
use Rattle.away_trees.specs.declared.statements.Stmt.TheBlock as b
use Rattle.away_trees.specs.declared.statements.Stmt.TheOpen.{Stmt-F, Arm-F}
use Rattle.away_trees.specs.declared.statements.Stmt.TheOpen as st
use Rattle.away_trees.specs.Count.{counting, nodes, nodes_of}
use Rattle.away_trees.specs.Limits.{counting_loops, counting_variables, loops, loops_of, variables, variables_of}
use Rattle.away_trees.specs.StatementAlgebra.{StatementAlgebra, stmt_of, stmts_of, branches_of, else_of}
use Rattle.away_trees.specs.StatementEquations.{StatementSteps, statement_algebra}
use Rattle.call_expand.specs.declared.made.Back.TheVariants.{Whole}
use Rattle.call_expand.specs.Expanding as e
use Rattle.call_expand.specs.Expanding.{IsExpansion, function_at}
use Rattle.call_expand.specs.Moving as m
use Rattle.expanded_sizes.specs.Sizes as sizes
use Rattle.expanded_sizes.specs.Sizes.{of_loops, of_nodes, of_variables, expanded_weight}
use Rattle.expanded_sizes.specs.Laws.{AreCounts, SumsAreCounts}
use Rattle.expanded_sizes.proofs.ExpandedWeights.{body_weighs, steps, weight}

-- ---- two recursions with the same steps

module _ (p q : StatementSteps ℕ ℕ) (same : (s : Stmt-F ℕ ℕ) → p.stmt s ≡ q.stmt s) (same_arm : (x : Arm-F ℕ ℕ) → p.arm x ≡ q.arm x) where
  abbrev P : StatementAlgebra
  P = statement_algebra p

  abbrev Q : StatementAlgebra
  Q = statement_algebra q

  mutual
    pub all_same : (s : Stmt) → stmt_of P s ≡ stmt_of Q s
    all_same (b.Block' label decls s body closing) = ap (λ xs. p.stmt (st.Block label decls xs closing)) (rows_same body)
        ∙ same (st.Block label decls (stmts_of Q body) closing)
    all_same (b.Assign name slot x) = same (st.Assign name slot x)
    all_same (b.If' s arms other) = (λ i. p.stmt (st.If (arms_same arms i) (else_same other i))) ∙ same (st.If (branches_of Q arms) (else_of Q other))
    all_same (b.Cases' s arms other) = (λ i. p.stmt (st.Cases (arms_same arms i) (else_same other i))) ∙ same (st.Cases (branches_of Q arms) (else_of Q other))
    all_same (b.Loop' label head s body closing) = ap (λ xs. p.stmt (st.Loop label head xs closing)) (rows_same body)
        ∙ same (st.Loop label head (stmts_of Q body) closing)
    all_same (b.Exit label when) = same (st.Exit label when)
    all_same (b.Continue label when) = same (st.Continue label when)
    all_same (b.Return x) = same (st.Return x)
    all_same (b.Raise raised) = same (st.Raise raised)
    all_same (b.Into strict targets query) = same (st.Into strict targets query)
    all_same b.Nothing = same st.Nothing

    rows_same : {n : _} → (r : b.Row_of-Stmt n) → stmts_of P r ≡ stmts_of Q r
    rows_same b.end_of-Stmt = refl
    rows_same (b.more_of-Stmt s rest) = λ i. all_same s i ∷ rows_same rest i

    arms_same : {n : _} → (r : b.Row_of-Arm n) → branches_of P r ≡ branches_of Q r
    arms_same b.end_of-Arm = refl
    arms_same (b.more_of-Arm test s body rest) =
        λ i. (ap (λ xs. p.arm (record { test = test; body = xs })) (rows_same body) ∙ same_arm
        (record { test = test; body = stmts_of Q body })) i ∷ arms_same rest i

    else_same : (r : b.Held-Stmt-If-1) → else_of P r ≡ else_of Q r
    else_same b.None' = refl
    else_same (b.Some' s body) = λ i. Some (rows_same body i)

-- ---- the counts as weights

abbrev node_steps : StatementSteps ℕ ℕ
node_steps = record { stmt = counting.stmt; arm = counting.arm }

abbrev variable_steps : StatementSteps ℕ ℕ
variable_steps = record { stmt = counting_variables.stmt; arm = counting_variables.arm }

abbrev loop_steps : StatementSteps ℕ ℕ
loop_steps = record { stmt = counting_loops.stmt; arm = counting_loops.arm }

node_step : (s : Stmt-F ℕ ℕ) → counting.stmt s ≡ sizes.statement of_nodes (λ x. 1) (λ x. 1) s
node_step (st.Block label decls body closing) = omega arith
node_step (st.Assign name slot x) = refl
node_step (st.If arms None) = omega arith
node_step (st.If arms (Some body)) = omega arith
node_step (st.Cases arms None) = omega arith
node_step (st.Cases arms (Some body)) = omega arith
node_step (st.Loop label kind.Plain body closing) = omega arith
node_step (st.Loop label (kind.While x) body closing) = omega arith
node_step (st.Loop label (kind.Count var reverse first last step) body closing) = omega arith
node_step (st.Exit label when) = refl
node_step (st.Continue label when) = refl
node_step (st.Return x) = refl
node_step (st.Raise raised) = refl
node_step (st.Into strict targets query) = omega arith
node_step st.Nothing = refl

variable_step : (s : Stmt-F ℕ ℕ) → counting_variables.stmt s ≡ sizes.statement of_variables (λ x. 0) (λ x. 0) s
variable_step (st.Block label decls body closing) = omega arith
variable_step (st.Assign name slot x) = refl
variable_step (st.If arms None) = omega arith
variable_step (st.If arms (Some body)) = omega arith
variable_step (st.Cases arms None) = omega arith
variable_step (st.Cases arms (Some body)) = omega arith
variable_step (st.Loop label kind.Plain body closing) = omega arith
variable_step (st.Loop label (kind.While x) body closing) = omega arith
variable_step (st.Loop label (kind.Count var reverse first last step) body closing) = omega arith
variable_step (st.Exit label when) = refl
variable_step (st.Continue label when) = refl
variable_step (st.Return x) = refl
variable_step (st.Raise raised) = refl
variable_step (st.Into strict targets query) = omega arith
variable_step st.Nothing = refl

loop_step : (s : Stmt-F ℕ ℕ) → counting_loops.stmt s ≡ sizes.statement of_loops (λ x. 0) (λ x. 0) s
loop_step (st.Block label decls body closing) = omega arith
loop_step (st.Assign name slot x) = refl
loop_step (st.If arms None) = omega arith
loop_step (st.If arms (Some body)) = omega arith
loop_step (st.Cases arms None) = omega arith
loop_step (st.Cases arms (Some body)) = omega arith
loop_step (st.Loop label kind.Plain body closing) = omega arith
loop_step (st.Loop label (kind.While x) body closing) = omega arith
loop_step (st.Loop label (kind.Count var reverse first last step) body closing) = omega arith
loop_step (st.Exit label when) = refl
loop_step (st.Continue label when) = refl
loop_step (st.Return x) = refl
loop_step (st.Raise raised) = refl
loop_step (st.Into strict targets query) = omega arith
loop_step st.Nothing = refl

nodes_weigh : (s : Stmt) → nodes_of s ≡ weight of_nodes s
unfolding nodes_of
nodes_weigh s = all_same node_steps (steps of_nodes) node_step (λ x. refl) s

variables_weigh : (s : Stmt) → variables_of s ≡ weight of_variables s
unfolding variables_of
variables_weigh s = all_same variable_steps (steps of_variables) variable_step (λ x. omega arith) s

loops_weigh : (s : Stmt) → loops_of s ≡ weight of_loops s
unfolding loops_of
loops_weigh s = all_same loop_steps (steps of_loops) loop_step (λ x. omega arith) s

-- ---- the whole

params_as_many : (names : List (List ℕ)) (k : ℕ) (ps : _) → length (m.moved_params names k ps) ≡ length ps
params_as_many names k [] = refl
params_as_many names k (p ∷ ps) = ap (λ n. suc n) (params_as_many names (suc k) ps)

module _ (names : List (List ℕ)) (fs : List Function) where
  abbrev main : Function
  main = function_at fs 0

  weighs : (w : _) → weight w (e.main_body names fs).it ≡ expanded_weight w fs (length fs) false 0
  weighs w = body_weighs w names fs (length fs) 0 Whole (m.seeing_params 0 main.params) (length main.params)

  whole : AreCounts fs (e.expanded_with names fs)
  unfolding nodes variables loops
  whole = record {
    nodes_are = λ i. params_as_many names 0 main.params i + (nodes_weigh (e.main_body names fs).it ∙ weighs of_nodes) i;
    variables_are = λ i. params_as_many names 0 main.params i + (variables_weigh (e.main_body names fs).it ∙ weighs of_variables) i;
    loops_are = loops_weigh (e.main_body names fs).it ∙ weighs of_loops;
  }

pub sums_are_counts : SumsAreCounts
sums_are_counts s fs f expands = subst (AreCounts fs) (sym expands.is) (whole expands.names fs)
