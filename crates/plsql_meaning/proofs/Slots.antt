-- The meaning of a statement takes the slots that are counted.
use Rattle.std.proofs.Common.{◌≡◌, Bool, sum_by, refl, sym, ℕ, ◌+◌, List, [], ◌∷◌, length, ap, ◌∙◌, sum, Option, Some, None, map, arith}
use Rattle.std.proofs.lemmas.List.Sums.{sum_by-cons, sum-map, sum_by_more, sum_by_more_le}
use Rattle.away_trees.specs.declared.queries.Expr.{Expr}
use Rattle.away_trees.specs.declared.queries.Select.{Select}
use Rattle.away_trees.specs.declared.statements.Arm.{Arm}
use Rattle.away_trees.specs.declared.statements.Decl.{Decl}
use Rattle.away_trees.specs.declared.statements.LoopKind.{LoopKind}
use Rattle.away_trees.specs.declared.statements.LoopKind.TheVariants as kind
use Rattle.away_trees.specs.declared.statements.Raised.{Raised}
use Rattle.away_trees.specs.declared.statements.Stmt.TheVariants as stmt
use Rattle.away_trees.proofs.StatementEquations.{of_block, of_loop, of_if, of_cases}
use Rattle.away_trees.specs.declared.statements.Stmt.{Stmt}
use Rattle.away_trees.specs.declared.statements.Stmt.TheBlock as b
use Rattle.away_trees.specs.StatementAlgebra.{stmt_of, stmts_of, branches_of, branch_of, else_of}
use Rattle.plsql_meaning.specs.Statements.{Setting, running, row_vars, arms_vars, else_vars, kind_vars}
use Rattle.plsql_meaning.specs.Slots.{slot_counting, else_slots, slots_of, slots_of_arm, slots_of_else}

sum_cons : (x : ℕ) (xs : List ℕ) → sum (x ∷ xs) ≡ x + sum xs
sum_cons x xs = sum_by-cons (λ k. k) x xs

module _ (set : Setting) where
  mutual
    pub statement_takes : (s : Stmt) → (stmt_of (running set) s).vars ≡ stmt_of slot_counting s
    statement_takes (b.Block' label decls s body closing) = ap (λ k. length decls + k) (row_takes body)
    statement_takes (b.Assign name slot e) = refl
    statement_takes (b.If' s arms other) = λ i. arms_take arms i + else_takes other i
    statement_takes (b.Cases' s arms other) = λ i. arms_take arms i + else_takes other i
    statement_takes (b.Loop' label kind s body closing) = ap (λ k. kind_vars kind + k) (row_takes body)
    statement_takes (b.Exit label when) = refl
    statement_takes (b.Continue label when) = refl
    statement_takes (b.Return e) = refl
    statement_takes (b.Raise raised) = refl
    statement_takes (b.Into strict targets query) = refl
    statement_takes b.Nothing = refl

    pub row_takes : {m : _} → (r : b.Row_of-Stmt m) → row_vars (stmts_of (running set) r) ≡ sum (stmts_of slot_counting r)
    row_takes b.end_of-Stmt = refl
    row_takes (b.more_of-Stmt s rest) = (λ i. statement_takes s i + row_takes rest i) ∙ sym (sum_cons (stmt_of slot_counting s) (stmts_of slot_counting rest))

    pub arms_take : {m : _} → (r : b.Row_of-Arm m) → arms_vars (branches_of (running set) r) ≡ sum (branches_of slot_counting r)
    arms_take b.end_of-Arm = refl
    arms_take (b.more_of-Arm test s body rest) = (λ i. row_takes body i + arms_take rest i) ∙ sym (sum_cons (sum (stmts_of slot_counting body)) (branches_of slot_counting rest))

    pub else_takes : (r : b.Held-Stmt-If-1) → else_vars (else_of (running set) r) ≡ else_slots (else_of slot_counting r)
    else_takes b.None' = refl
    else_takes (b.Some' s body) = row_takes body

  pub list_takes : (ss : List Stmt) → row_vars (map (λ s. stmt_of (running set) s) ss) ≡ sum (map (λ s. stmt_of slot_counting s) ss)
  list_takes [] = refl
  list_takes (s ∷ ss) = (λ i. statement_takes s i + list_takes ss i) ∙ sym (sum_cons (stmt_of slot_counting s) (map (λ s. stmt_of slot_counting s) ss))

-- ---- what is counted of each kind of node

body_sum : (body : List Stmt) → sum (map (λ s. stmt_of slot_counting s) body) ≡ sum_by slots_of body
unfolding slots_of
body_sum body = sum-map (λ s. stmt_of slot_counting s) body

arms_sum : (arms : List Arm) → sum (map (λ x. branch_of slot_counting x) arms) ≡ sum_by slots_of_arm arms
unfolding slots_of_arm
arms_sum arms = sum-map (λ x. branch_of slot_counting x) arms

zero_plus : (k : ℕ) → 0 + k ≡ k
zero_plus k = omega arith

pub block_slots : (label : Option (List ℕ)) (decls : List Decl) (body : List Stmt) (closing : Option (List ℕ)) →
    slots_of (stmt.Block label decls body closing) ≡ length decls + sum_by slots_of body
unfolding slots_of
block_slots label decls body closing = of_block slot_counting label decls body closing ∙ ap (λ k. length decls + k) (body_sum body)

pub plain_slots : (label : Option (List ℕ)) (body : List Stmt) (closing : Option (List ℕ)) → slots_of (stmt.Loop label kind.Plain body closing) ≡ sum_by slots_of body
unfolding slots_of
plain_slots label body closing = of_loop slot_counting label kind.Plain body closing ∙ ap (λ k. 0 + k) (body_sum body) ∙ zero_plus (sum_by slots_of body)

pub while_slots : (label : Option (List ℕ)) (e : Expr) (body : List Stmt) (closing : Option (List ℕ)) → slots_of (stmt.Loop label (kind.While e) body closing) ≡ sum_by slots_of body
unfolding slots_of
while_slots label e body closing = of_loop slot_counting label (kind.While e) body closing ∙ ap (λ k. 0 + k) (body_sum body) ∙ zero_plus (sum_by slots_of body)

pub for_slots : (label : Option (List ℕ)) (var : List ℕ) (reverse : Bool) (first last : Expr) (by : Option Expr) (body : List Stmt) (closing : Option (List ℕ)) →
    slots_of (stmt.Loop label (kind.Count var reverse first last by) body closing) ≡ 1 + sum_by slots_of body
unfolding slots_of
for_slots label var reverse first last by body closing = of_loop slot_counting label (kind.Count var reverse first last by) body closing ∙ ap (λ k. 1 + k) (body_sum body)

pub loop_slots : (label : Option (List ℕ)) (k : LoopKind) (body : List Stmt) (closing : Option (List ℕ)) → slots_of (stmt.Loop label k body closing) ≡ kind_vars k + sum_by slots_of body
unfolding slots_of
loop_slots label k body closing = of_loop slot_counting label k body closing ∙ ap (λ n. kind_vars k + n) (body_sum body)

pub if_slots : (arms : List Arm) (other : Option (List Stmt)) → slots_of (stmt.If arms other) ≡ sum_by slots_of_arm arms + slots_of_else other
unfolding slots_of slots_of_else
if_slots arms None = of_if slot_counting arms None ∙ ap (λ k. k + 0) (arms_sum arms)
if_slots arms (Some body) = of_if slot_counting arms (Some body) ∙ (λ i. arms_sum arms i + body_sum body i)

pub cases_slots : (arms : List Arm) (other : Option (List Stmt)) → slots_of (stmt.Cases arms other) ≡ sum_by slots_of_arm arms + slots_of_else other
unfolding slots_of slots_of_else
cases_slots arms None = of_cases slot_counting arms None ∙ ap (λ k. k + 0) (arms_sum arms)
cases_slots arms (Some body) = of_cases slot_counting arms (Some body) ∙ (λ i. arms_sum arms i + body_sum body i)

pub arm_slots : (x : Arm) → slots_of_arm x ≡ sum_by slots_of x.body
unfolding slots_of_arm
arm_slots x = body_sum x.body

pub no_else : slots_of_else None ≡ 0
unfolding slots_of_else
no_else = refl

pub else_slots_are : (body : List Stmt) → slots_of_else (Some body) ≡ sum_by slots_of body
unfolding slots_of_else
else_slots_are body = refl

pub assign_slots : (name : List ℕ) (slot : Option ℕ) (e : Expr) → slots_of (stmt.Assign name slot e) ≡ 0
unfolding slots_of
assign_slots name slot e = refl

pub exit_slots : (label : Option (List ℕ)) (when : Option Expr) → slots_of (stmt.Exit label when) ≡ 0
unfolding slots_of
exit_slots label when = refl

pub continue_slots : (label : Option (List ℕ)) (when : Option Expr) → slots_of (stmt.Continue label when) ≡ 0
unfolding slots_of
continue_slots label when = refl

pub return_slots : (e : Expr) → slots_of (stmt.Return e) ≡ 0
unfolding slots_of
return_slots e = refl

pub raise_slots : (raised : Raised) → slots_of (stmt.Raise raised) ≡ 0
unfolding slots_of
raise_slots raised = refl

pub into_slots : (strict : Bool) (targets : List (List ℕ × Option ℕ)) (query : Select) → slots_of (stmt.Into strict targets query) ≡ 0
unfolding slots_of
into_slots strict targets query = refl

pub nothing_slots : slots_of stmt.Nothing ≡ 0
unfolding slots_of
nothing_slots = refl

pub ruleset slot_rules = (block_slots, plain_slots, while_slots, for_slots, if_slots, cases_slots, arm_slots, no_else, else_slots_are, assign_slots, exit_slots, continue_slots, return_slots, raise_slots, into_slots, nothing_slots, sum_by_more, sum_by_more_le)

-- what a meaning takes is what is counted
pub takes : (set : Setting) (s : Stmt) → (stmt_of (running set) s).vars ≡ slots_of s
unfolding slots_of
takes set s = statement_takes set s

pub all_take : (set : Setting) (ss : List Stmt) → row_vars (map (λ s. stmt_of (running set) s) ss) ≡ sum_by slots_of ss
all_take set ss = list_takes set ss ∙ body_sum ss
