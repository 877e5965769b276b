-- The nodes of a statement, by its parts.
use Rattle.std.proofs.Common.{◌≡◌, ℕ, ◌+◌, List, length, Option, Some, None, sum, sum_by, Bool, refl, ap, ◌∙◌, map}
use Rattle.std.proofs.lemmas.List.Sums.{sum-map, sum_by_more, sum_by_more_le}
use Rattle.away_trees.specs.declared.queries.Expr.{Expr}
use Rattle.away_trees.specs.declared.queries.Select.{Select}
use Rattle.away_trees.specs.declared.statements.Arm.{Arm}
use Rattle.away_trees.specs.declared.statements.Decl.{Decl}
use Rattle.away_trees.specs.declared.statements.LoopKind.{LoopKind}
use Rattle.away_trees.specs.declared.statements.Raised.{Raised}
use Rattle.away_trees.specs.declared.statements.Stmt.{Stmt}
use Rattle.away_trees.specs.declared.statements.Stmt.TheVariants as stmt
use Rattle.away_trees.specs.StatementAlgebra.{stmt_of, branch_of}
use Rattle.away_trees.specs.Count.{counting, nodes_of, nodes_of_arm, nodes_of_else}
use Rattle.away_trees.proofs.StatementEquations.{of_block, of_loop, of_if, of_cases}

body_sum : (body : List Stmt) → sum (map (λ s. stmt_of counting s) body) ≡ sum_by nodes_of body
unfolding nodes_of
body_sum body = sum-map (λ s. stmt_of counting s) body

arms_sum : (arms : List Arm) → sum (map (λ x. branch_of counting x) arms) ≡ sum_by nodes_of_arm arms
unfolding nodes_of_arm
arms_sum arms = sum-map (λ x. branch_of counting x) arms

pub block_nodes : (label : Option (List ℕ)) (decls : List Decl) (body : List Stmt) (closing : Option (List ℕ)) →
    nodes_of (stmt.Block label decls body closing) ≡ 1 + length decls + sum_by nodes_of body
unfolding nodes_of
block_nodes label decls body closing = of_block counting label decls body closing ∙ ap (λ k. 1 + length decls + k) (body_sum body)

pub loop_nodes : (label : Option (List ℕ)) (kind : LoopKind) (body : List Stmt) (closing : Option (List ℕ)) →
    nodes_of (stmt.Loop label kind body closing) ≡ 1 + sum_by nodes_of body
unfolding nodes_of
loop_nodes label kind body closing = of_loop counting label kind body closing ∙ ap (λ k. 1 + k) (body_sum body)

pub if_nodes : (arms : List Arm) (other : Option (List Stmt)) → nodes_of (stmt.If arms other) ≡ 1 + sum_by nodes_of_arm arms + nodes_of_else other
unfolding nodes_of nodes_of_else
if_nodes arms None = of_if counting arms None ∙ ap (λ k. 1 + k + 0) (arms_sum arms)
if_nodes arms (Some body) = of_if counting arms (Some body) ∙ (λ i. 1 + arms_sum arms i + (1 + body_sum body i))

pub cases_nodes : (arms : List Arm) (other : Option (List Stmt)) → nodes_of (stmt.Cases arms other) ≡ 1 + sum_by nodes_of_arm arms + nodes_of_else other
unfolding nodes_of nodes_of_else
cases_nodes arms None = of_cases counting arms None ∙ ap (λ k. 1 + k + 0) (arms_sum arms)
cases_nodes arms (Some body) = of_cases counting arms (Some body) ∙ (λ i. 1 + arms_sum arms i + (1 + body_sum body i))

pub into_nodes : (strict : Bool) (targets : List (List ℕ × Option ℕ)) (query : Select) → nodes_of (stmt.Into strict targets query) ≡ 1 + length targets
unfolding nodes_of
into_nodes strict targets query = refl

pub assign_nodes : (name : List ℕ) (slot : Option ℕ) (e : Expr) → nodes_of (stmt.Assign name slot e) ≡ 1
unfolding nodes_of
assign_nodes name slot e = refl

pub exit_nodes : (label : Option (List ℕ)) (when : Option Expr) → nodes_of (stmt.Exit label when) ≡ 1
unfolding nodes_of
exit_nodes label when = refl

pub continue_nodes : (label : Option (List ℕ)) (when : Option Expr) → nodes_of (stmt.Continue label when) ≡ 1
unfolding nodes_of
continue_nodes label when = refl

pub return_nodes : (e : Expr) → nodes_of (stmt.Return e) ≡ 1
unfolding nodes_of
return_nodes e = refl

pub raise_nodes : (raised : Raised) → nodes_of (stmt.Raise raised) ≡ 1
unfolding nodes_of
raise_nodes raised = refl

pub nothing_nodes : nodes_of stmt.Nothing ≡ 1
unfolding nodes_of
nothing_nodes = refl

pub arm_nodes : (x : Arm) → nodes_of_arm x ≡ 1 + sum_by nodes_of x.body
unfolding nodes_of_arm
arm_nodes x = ap (λ k. 1 + k) (body_sum x.body)

pub no_else : nodes_of_else None ≡ 0
unfolding nodes_of_else
no_else = refl

pub else_nodes : (body : List Stmt) → nodes_of_else (Some body) ≡ 1 + sum_by nodes_of body
unfolding nodes_of_else
else_nodes body = refl

pub ruleset node_rules = (block_nodes, loop_nodes, if_nodes, cases_nodes, into_nodes, assign_nodes, exit_nodes, continue_nodes, return_nodes, raise_nodes, nothing_nodes, arm_nodes, no_else, else_nodes, sum_by_more, sum_by_more_le)
