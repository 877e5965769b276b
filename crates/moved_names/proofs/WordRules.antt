-- Whether a statement has what is looked for, by its parts.
use Rattle.std.proofs.Common.{◌≡◌, refl, ap, ◌∙◌, ℕ, Bool, true, false, ◌||◌, List, [], ◌∷◌, map, Option, Some, None, if◌then◌else◌}
use Rattle.std.specs.List.{list_any}
use Rattle.away_trees.specs.declared.queries.Expr.{Expr}
use Rattle.away_trees.specs.declared.queries.Expr.TheBlock as b
use Rattle.away_trees.specs.declared.queries.Expr.TheVariants as expr
use Rattle.away_trees.specs.declared.queries.Select.{Select}
use Rattle.away_trees.specs.declared.statements.Arm.{Arm}
use Rattle.away_trees.specs.declared.statements.Decl.{Decl}
use Rattle.away_trees.specs.declared.statements.LoopKind.{LoopKind}
use Rattle.away_trees.specs.declared.statements.Raised.{Raised}
use Rattle.away_trees.specs.declared.statements.Stmt.{Stmt}
use Rattle.away_trees.specs.declared.statements.Stmt.TheVariants as stmt
use Rattle.away_trees.specs.StatementAlgebra.{stmt_of, branch_of}
use Rattle.away_trees.proofs.StatementEquations as e
use Rattle.away_names.specs.Lookups.{Name, is_among}
use Rattle.moved_names.specs.Finding.{Sought, any, holds, in_expr, in_select}
use Rattle.moved_names.specs.Words.{Looking, looking, in_stmt, in_branch, in_decl, in_kind, in_target, exprs_in, beside, beside_call, whole_call}
use Rattle.moved_names.proofs.FindingRules.{any_map}

-- ---- calls as a whole

exprs_are : (es : List Expr) → exprs_in (b.hidden-the_row-Expr-2 es) ≡ es
unfolding b.hidden-the_row-Expr-2 denote.Hole.Carrier.hidden
exprs_are [] = refl
exprs_are (x ∷ xs) = ap (λ ys. x ∷ ys) (exprs_are xs)

pub call_rule : (s : Sought) (fs : List Name) (name : Name) (es : List Expr) → beside s fs (expr.Call name es) ≡ (if is_among name fs then list_any (in_expr s) es else in_expr s (expr.Call name es))
unfolding beside
call_rule s fs name es = ap (λ xs. if is_among name fs then list_any (in_expr s) xs else in_expr s (expr.Call name es)) (exprs_are es)

pub among_rule : (s : Sought) (fs : List Name) (name : Name) (es : List Expr) → is_among name fs ≡ true → beside s fs (expr.Call name es) ≡ list_any (in_expr s) es
among_rule s fs name es e = call_rule s fs name es ∙ ap (λ b. if b then list_any (in_expr s) es else in_expr s (expr.Call name es)) e

by_no_call : (s : Sought) (c : Option (Name × List Expr)) (e : Expr) → beside_call s [] c e ≡ in_expr s e
by_no_call s None e = refl
by_no_call s (Some c) e = refl

pub no_call_rule : (s : Sought) (e : Expr) → beside s [] e ≡ in_expr s e
unfolding beside
no_call_rule s e = by_no_call s (whole_call e) e

-- ---- statements

any_stmts : (l : Looking) (xs : List Stmt) → any (map (λ s. stmt_of (looking l) s) xs) ≡ list_any (in_stmt l) xs
unfolding in_stmt
any_stmts l xs = any_map _ (λ b. b) xs

any_arms : (l : Looking) (xs : List Arm) → any (map (λ x. branch_of (looking l) x) xs) ≡ list_any (in_branch l) xs
unfolding in_branch
any_arms l xs = any_map _ (λ b. b) xs

or_false : (b : Bool) → (b || false) ≡ b
or_false true = refl
or_false false = refl

pub block_rule : (l : Looking) (label : Option Name) (decls : List Decl) (body : List Stmt) (closing : Option Name) →
    in_stmt l (stmt.Block label decls body closing) ≡ (holds l.sought.word label || (list_any (in_decl l.sought) decls || (list_any (in_stmt l) body || holds l.sought.word closing)))
unfolding in_stmt
block_rule l label decls body closing = e.of_block (looking l) label decls body closing ∙ ap (λ b. holds l.sought.word label || (list_any (in_decl l.sought) decls || (b || holds l.sought.word closing))) (any_stmts l body)

pub loop_rule : (l : Looking) (label : Option Name) (k : LoopKind) (body : List Stmt) (closing : Option Name) →
    in_stmt l (stmt.Loop label k body closing) ≡ (holds l.sought.word label || (in_kind l.sought k || (list_any (in_stmt l) body || holds l.sought.word closing)))
unfolding in_stmt
loop_rule l label k body closing = e.of_loop (looking l) label k body closing ∙ ap (λ b. holds l.sought.word label || (in_kind l.sought k || (b || holds l.sought.word closing))) (any_stmts l body)

pub if_rule : (l : Looking) (arms : List Arm) → in_stmt l (stmt.If arms None) ≡ list_any (in_branch l) arms
unfolding in_stmt
if_rule l arms = e.of_if (looking l) arms None ∙ (or_false _ ∙ any_arms l arms)

pub if_else_rule : (l : Looking) (arms : List Arm) (body : List Stmt) → in_stmt l (stmt.If arms (Some body)) ≡ (list_any (in_branch l) arms || list_any (in_stmt l) body)
unfolding in_stmt
if_else_rule l arms body = e.of_if (looking l) arms (Some body) ∙ (λ i. any_arms l arms i || any_stmts l body i)

pub cases_rule : (l : Looking) (arms : List Arm) → in_stmt l (stmt.Cases arms None) ≡ list_any (in_branch l) arms
unfolding in_stmt
cases_rule l arms = e.of_cases (looking l) arms None ∙ (or_false _ ∙ any_arms l arms)

pub cases_else_rule : (l : Looking) (arms : List Arm) (body : List Stmt) → in_stmt l (stmt.Cases arms (Some body)) ≡ (list_any (in_branch l) arms || list_any (in_stmt l) body)
unfolding in_stmt
cases_else_rule l arms body = e.of_cases (looking l) arms (Some body) ∙ (λ i. any_arms l arms i || any_stmts l body i)

pub assign_rule : (l : Looking) (m : Name) (slot : Option ℕ) (x : Expr) → in_stmt l (stmt.Assign m slot x) ≡ (l.sought.word m || l.assigned x)
unfolding in_stmt
assign_rule l m slot x = refl

pub exit_rule : (l : Looking) (label : Option Name) (when : Option Expr) → in_stmt l (stmt.Exit label when) ≡ (holds l.sought.word label || holds (in_expr l.sought) when)
unfolding in_stmt
exit_rule l label when = refl

pub continue_rule : (l : Looking) (label : Option Name) (when : Option Expr) → in_stmt l (stmt.Continue label when) ≡ (holds l.sought.word label || holds (in_expr l.sought) when)
unfolding in_stmt
continue_rule l label when = refl

pub return_rule : (l : Looking) (x : Expr) → in_stmt l (stmt.Return x) ≡ l.returned x
unfolding in_stmt
return_rule l x = refl

pub raise_rule : (l : Looking) (raised : Raised) → in_stmt l (stmt.Raise raised) ≡ false
unfolding in_stmt
raise_rule l raised = refl

pub into_rule : (l : Looking) (strict : Bool) (targets : List (Name × Option ℕ)) (query : Select) → in_stmt l (stmt.Into strict targets query) ≡ (list_any (in_target l.sought) targets || in_select l.sought query)
unfolding in_stmt
into_rule l strict targets query = refl

pub nothing_rule : (l : Looking) → in_stmt l stmt.Nothing ≡ false
unfolding in_stmt
nothing_rule l = refl

pub branch_rule : (l : Looking) (a : Arm) → in_branch l a ≡ (in_expr l.sought a.test || list_any (in_stmt l) a.body)
unfolding in_branch in_stmt
branch_rule l a = ap (λ b. in_expr l.sought a.test || b) (any_map _ (λ b. b) a.body)

pub ruleset statement_rules = (block_rule, loop_rule, if_rule, if_else_rule, cases_rule, cases_else_rule, assign_rule, exit_rule, continue_rule, return_rule, raise_rule, into_rule, nothing_rule)
