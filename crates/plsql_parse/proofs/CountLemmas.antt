-- The variables and the loops of a statement, by its parts.
use Rattle.std.proofs.Common.{◌≡◌, ℕ, ◌+◌, List, length, Option, Some, None, sum, sum_by, Bool, refl, ap, ◌∙◌, map}
use Rattle.std.proofs.lemmas.List.Sums.{sum-map, sum_by_more, sum_by_more_le}
use Rattle.away_trees.specs.declared.queries.Expr.{Expr}
use Rattle.away_trees.specs.declared.queries.Select.{Select}
use Rattle.away_trees.specs.declared.statements.Arm.{Arm}
use Rattle.away_trees.specs.declared.statements.Decl.{Decl}
use Rattle.away_trees.specs.declared.statements.LoopKind.{LoopKind}
use Rattle.away_trees.specs.declared.statements.Raised.{Raised}
use Rattle.away_trees.specs.declared.statements.Stmt.{Stmt}
use Rattle.away_trees.specs.declared.statements.Stmt.TheVariants as stmt
use Rattle.away_trees.specs.StatementAlgebra.{stmt_of, branch_of}
use Rattle.away_trees.proofs.StatementEquations.{of_block, of_loop, of_if, of_cases}
use Rattle.away_trees.specs.Limits.{counting_variables, variables_of, variables_of_arm, counting_loops, loops_of, loops_of_arm, for_loops}

-- of what stands behind an ELSE
abbrev pub in_else : (Stmt → ℕ) → Option (List Stmt) → ℕ
in_else count None = 0
in_else count (Some body) = sum_by count body

-- ---- variables

body_variables : (body : List Stmt) → sum (map (λ s. stmt_of counting_variables s) body) ≡ sum_by variables_of body
unfolding variables_of
body_variables body = sum-map (λ s. stmt_of counting_variables s) body

arms_variables : (arms : List Arm) → sum (map (λ x. branch_of counting_variables x) arms) ≡ sum_by variables_of_arm arms
unfolding variables_of_arm
arms_variables arms = sum-map (λ x. branch_of counting_variables x) arms

pub block_variables : (label : Option (List ℕ)) (decls : List Decl) (body : List Stmt) (closing : Option (List ℕ)) → variables_of (stmt.Block label decls body closing) ≡ length decls + sum_by variables_of body
unfolding variables_of
block_variables label decls body closing = of_block counting_variables label decls body closing ∙ ap (λ k. length decls + k) (body_variables body)

pub loop_variables : (label : Option (List ℕ)) (kind : LoopKind) (body : List Stmt) (closing : Option (List ℕ)) → variables_of (stmt.Loop label kind body closing) ≡ sum_by variables_of body
unfolding variables_of
loop_variables label kind body closing = of_loop counting_variables label kind body closing ∙ ap (λ k. k) (body_variables body)

pub if_variables : (arms : List Arm) (other : Option (List Stmt)) → variables_of (stmt.If arms other) ≡ sum_by variables_of_arm arms + in_else variables_of other
unfolding variables_of
if_variables arms None = of_if counting_variables arms None ∙ ap (λ k. k + 0) (arms_variables arms)
if_variables arms (Some body) = of_if counting_variables arms (Some body) ∙ (λ i. arms_variables arms i + body_variables body i)

pub cases_variables : (arms : List Arm) (other : Option (List Stmt)) → variables_of (stmt.Cases arms other) ≡ sum_by variables_of_arm arms + in_else variables_of other
unfolding variables_of
cases_variables arms None = of_cases counting_variables arms None ∙ ap (λ k. k + 0) (arms_variables arms)
cases_variables arms (Some body) = of_cases counting_variables arms (Some body) ∙ (λ i. arms_variables arms i + body_variables body i)

pub into_variables : (strict : Bool) (targets : List (List ℕ × Option ℕ)) (query : Select) → variables_of (stmt.Into strict targets query) ≡ 0
unfolding variables_of
into_variables strict targets query = refl

pub assign_variables : (name : List ℕ) (slot : Option ℕ) (e : Expr) → variables_of (stmt.Assign name slot e) ≡ 0
unfolding variables_of
assign_variables name slot e = refl

pub exit_variables : (label : Option (List ℕ)) (when : Option Expr) → variables_of (stmt.Exit label when) ≡ 0
unfolding variables_of
exit_variables label when = refl

pub continue_variables : (label : Option (List ℕ)) (when : Option Expr) → variables_of (stmt.Continue label when) ≡ 0
unfolding variables_of
continue_variables label when = refl

pub return_variables : (e : Expr) → variables_of (stmt.Return e) ≡ 0
unfolding variables_of
return_variables e = refl

pub raise_variables : (raised : Raised) → variables_of (stmt.Raise raised) ≡ 0
unfolding variables_of
raise_variables raised = refl

pub nothing_variables : variables_of stmt.Nothing ≡ 0
unfolding variables_of
nothing_variables = refl

pub arm_variables : (x : Arm) → variables_of_arm x ≡ sum_by variables_of x.body
unfolding variables_of_arm
arm_variables x = body_variables x.body

-- ---- loops

body_loops : (body : List Stmt) → sum (map (λ s. stmt_of counting_loops s) body) ≡ sum_by loops_of body
unfolding loops_of
body_loops body = sum-map (λ s. stmt_of counting_loops s) body

arms_loops : (arms : List Arm) → sum (map (λ x. branch_of counting_loops x) arms) ≡ sum_by loops_of_arm arms
unfolding loops_of_arm
arms_loops arms = sum-map (λ x. branch_of counting_loops x) arms

pub block_loops : (label : Option (List ℕ)) (decls : List Decl) (body : List Stmt) (closing : Option (List ℕ)) → loops_of (stmt.Block label decls body closing) ≡ sum_by loops_of body
unfolding loops_of
block_loops label decls body closing = of_block counting_loops label decls body closing ∙ ap (λ k. k) (body_loops body)

pub loop_loops : (label : Option (List ℕ)) (kind : LoopKind) (body : List Stmt) (closing : Option (List ℕ)) → loops_of (stmt.Loop label kind body closing) ≡ for_loops kind + sum_by loops_of body
unfolding loops_of
loop_loops label kind body closing = of_loop counting_loops label kind body closing ∙ ap (λ k. for_loops kind + k) (body_loops body)

pub if_loops : (arms : List Arm) (other : Option (List Stmt)) → loops_of (stmt.If arms other) ≡ sum_by loops_of_arm arms + in_else loops_of other
unfolding loops_of
if_loops arms None = of_if counting_loops arms None ∙ ap (λ k. k + 0) (arms_loops arms)
if_loops arms (Some body) = of_if counting_loops arms (Some body) ∙ (λ i. arms_loops arms i + body_loops body i)

pub cases_loops : (arms : List Arm) (other : Option (List Stmt)) → loops_of (stmt.Cases arms other) ≡ sum_by loops_of_arm arms + in_else loops_of other
unfolding loops_of
cases_loops arms None = of_cases counting_loops arms None ∙ ap (λ k. k + 0) (arms_loops arms)
cases_loops arms (Some body) = of_cases counting_loops arms (Some body) ∙ (λ i. arms_loops arms i + body_loops body i)

pub into_loops : (strict : Bool) (targets : List (List ℕ × Option ℕ)) (query : Select) → loops_of (stmt.Into strict targets query) ≡ 0
unfolding loops_of
into_loops strict targets query = refl

pub assign_loops : (name : List ℕ) (slot : Option ℕ) (e : Expr) → loops_of (stmt.Assign name slot e) ≡ 0
unfolding loops_of
assign_loops name slot e = refl

pub exit_loops : (label : Option (List ℕ)) (when : Option Expr) → loops_of (stmt.Exit label when) ≡ 0
unfolding loops_of
exit_loops label when = refl

pub continue_loops : (label : Option (List ℕ)) (when : Option Expr) → loops_of (stmt.Continue label when) ≡ 0
unfolding loops_of
continue_loops label when = refl

pub return_loops : (e : Expr) → loops_of (stmt.Return e) ≡ 0
unfolding loops_of
return_loops e = refl

pub raise_loops : (raised : Raised) → loops_of (stmt.Raise raised) ≡ 0
unfolding loops_of
raise_loops raised = refl

pub nothing_loops : loops_of stmt.Nothing ≡ 0
unfolding loops_of
nothing_loops = refl

pub arm_loops : (x : Arm) → loops_of_arm x ≡ sum_by loops_of x.body
unfolding loops_of_arm
arm_loops x = body_loops x.body

pub ruleset count_rules = (block_variables, loop_variables, if_variables, cases_variables, into_variables, assign_variables, exit_variables, continue_variables, return_variables, raise_variables, nothing_variables, arm_variables, block_loops, loop_loops, if_loops, cases_loops, into_loops, assign_loops, exit_loops, continue_loops, return_loops, raise_loops, nothing_loops, arm_loops, sum_by_more, sum_by_more_le)
