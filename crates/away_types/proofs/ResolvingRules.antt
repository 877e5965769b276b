-- A statement with what its names stand for, by its parts.
use Rattle.std.proofs.Common.{◌≡◌, refl, ap, ◌∙◌, ℕ, Bool, true, false, List, map, Option, Some, None, option_map}
use Rattle.away_trees.specs.declared.queries.Expr.{Expr}
use Rattle.away_trees.specs.declared.queries.Select.{Select}
use Rattle.away_trees.specs.declared.statements.Arm.{Arm}
use Rattle.away_trees.specs.declared.statements.Decl.{Decl}
use Rattle.away_trees.specs.declared.statements.LoopKind.{LoopKind}
use Rattle.away_trees.specs.declared.statements.Raised.{Raised}
use Rattle.away_trees.specs.declared.statements.Stmt.{Stmt}
use Rattle.away_trees.specs.declared.statements.Stmt.TheVariants as stmt
use Rattle.away_trees.specs.StatementAlgebra.{stmt_of, branch_of}
use Rattle.away_trees.proofs.StatementEquations as e
use Rattle.away_types.specs.declared.resolved.Resolved.{Resolved}
use Rattle.away_types.specs.declared.slots.Slots.{Slots}
use Rattle.away_names.specs.Notes.{clean}
use Rattle.away_names.specs.Lookups.{Name}
use Rattle.away_names.specs.Trees.{named_expr}
use Rattle.away_types.specs.Findings.{own, followed, branched}
use Rattle.away_types.specs.StatementRules as r
use Rattle.away_types.specs.Statements as n
use Rattle.away_types.specs.Statements.{Spot, resolving}
use Rattle.away_types.specs.ResolvedBodies.{resolved_stmt, resolved_arm, resolved_body, resolved_arms, resolved_other}
use Rattle.away_names.proofs.NamingRules.{fold_map}

body_is : (spot : Spot) (slots : Slots) (xs : List Stmt) → n.each_resolved (map (λ x. stmt_of resolving x) xs) spot slots ≡ resolved_body spot slots xs
unfolding resolved_stmt
body_is spot slots xs = fold_map _ _ _ xs

arms_are : (spot : Spot) (slots : Slots) (xs : List Arm) → n.each_resolved (map (λ x. branch_of resolving x) xs) spot slots ≡ resolved_arms spot slots xs
unfolding resolved_arm
arms_are spot slots xs = fold_map _ _ _ xs

other_is : (spot : Spot) (slots : Slots) (o : Option (List Stmt)) → n.maybe_resolved (n.other_by (option_map (λ xs. map (λ x. stmt_of resolving x) xs) o)) spot slots ≡ resolved_other spot slots o
other_is spot slots None = refl
other_is spot slots (Some xs) = ap (λ x. record { it = Some x.it; note = followed (own 1 clean) x.note; slots = x.slots }) (body_is spot slots xs)

pub block_rule : (label : Option Name) (decls : List Decl) (body : List Stmt) (closing : Option Name) (spot : Spot) (slots : Slots) →
    resolved_stmt spot slots (stmt.Block label decls body closing)
    ≡ n.block_with spot label decls closing (n.declared_all decls spot.scope slots).it (n.declared_all decls spot.scope slots).note
    (resolved_body (n.within label false (n.declared_all decls spot.scope slots).variables spot) (n.declared_all decls spot.scope slots).slots body)
unfolding resolved_stmt
block_rule label decls body closing spot slots =
    let ds = n.declared_all decls spot.scope slots in
    ap (λ f. f spot slots) (e.of_block resolving label decls body closing) ∙ ap (n.block_with spot label decls closing ds.it ds.note) (body_is (n.within label false ds.variables spot) ds.slots body)

pub loop_rule : (label : Option Name) (k : LoopKind) (body : List Stmt) (closing : Option Name) (spot : Spot) (slots : Slots) →
    resolved_stmt spot slots (stmt.Loop label k body closing)
    ≡ n.loop_with spot label closing (n.headed k spot.scope slots).it (n.headed k spot.scope slots).note (resolved_body (n.within label true (n.headed k spot.scope slots).variables spot) (n.headed k spot.scope slots).slots body)
unfolding resolved_stmt
loop_rule label k body closing spot slots =
    let h = n.headed k spot.scope slots in
    ap (λ f. f spot slots) (e.of_loop resolving label k body closing) ∙ ap (n.loop_with spot label closing h.it h.note) (body_is (n.within label true h.variables spot) h.slots body)

abbrev pub branches_with : (List Arm → Option (List Stmt) → Stmt) → Resolved (List Arm) → Resolved (Option (List Stmt)) → Resolved Stmt
branches_with form xs y = record { it = form xs.it y.it; note = branched xs.note y.note; slots = y.slots }

pub if_rule : (arms : List Arm) (other : Option (List Stmt)) (spot : Spot) (slots : Slots) →
    resolved_stmt spot slots (stmt.If arms other)
    ≡ branches_with (λ arms other. stmt.If arms other) (resolved_arms spot slots arms) (resolved_other spot (resolved_arms spot slots arms).slots other)
unfolding resolved_stmt
if_rule arms other spot slots =
    ap (λ f. f spot slots) (e.of_if resolving arms other)
    ∙ (ap (λ xs. branches_with (λ arms other. stmt.If arms other) xs (n.maybe_resolved (n.other_by (option_map (λ xs. map (λ x. stmt_of resolving x) xs) other)) spot xs.slots)) (arms_are spot slots arms)
    ∙ ap (branches_with (λ arms other. stmt.If arms other) (resolved_arms spot slots arms)) (other_is spot (resolved_arms spot slots arms).slots other))

pub cases_rule : (arms : List Arm) (other : Option (List Stmt)) (spot : Spot) (slots : Slots) →
    resolved_stmt spot slots (stmt.Cases arms other)
    ≡ branches_with (λ arms other. stmt.Cases arms other) (resolved_arms spot slots arms) (resolved_other spot (resolved_arms spot slots arms).slots other)
unfolding resolved_stmt
cases_rule arms other spot slots =
    ap (λ f. f spot slots) (e.of_cases resolving arms other)
    ∙ (ap (λ xs. branches_with (λ arms other. stmt.Cases arms other) xs (n.maybe_resolved (n.other_by (option_map (λ xs. map (λ x. stmt_of resolving x) xs) other)) spot xs.slots)) (arms_are spot slots arms)
    ∙ ap (branches_with (λ arms other. stmt.Cases arms other) (resolved_arms spot slots arms)) (other_is spot (resolved_arms spot slots arms).slots other))

pub assign_rule : (name : Name) (slot : Option ℕ) (x : Expr) (spot : Spot) (slots : Slots) →
    resolved_stmt spot slots (stmt.Assign name slot x)
    ≡ n.assign_with spot name x slots
unfolding resolved_stmt
assign_rule name slot x spot slots = refl

pub exit_rule : (label : Option Name) (when : Option Expr) (spot : Spot) (slots : Slots) →
    resolved_stmt spot slots (stmt.Exit label when) ≡ n.jump (λ label when. stmt.Exit label when) r.may_exit label when spot slots
unfolding resolved_stmt
exit_rule label when spot slots = refl

pub continue_rule : (label : Option Name) (when : Option Expr) (spot : Spot) (slots : Slots) →
    resolved_stmt spot slots (stmt.Continue label when) ≡ n.jump (λ label when. stmt.Continue label when) r.may_continue label when spot slots
unfolding resolved_stmt
continue_rule label when spot slots = refl

pub return_rule : (x : Expr) (spot : Spot) (slots : Slots) →
    resolved_stmt spot slots (stmt.Return x) ≡ record { it = stmt.Return (named_expr x spot.scope).it; note = own 1 (named_expr x spot.scope).note; slots = slots }
unfolding resolved_stmt
return_rule x spot slots = refl

pub raise_rule : (raised : Raised) (spot : Spot) (slots : Slots) → resolved_stmt spot slots (stmt.Raise raised) ≡ n.raise_with raised slots
unfolding resolved_stmt
raise_rule raised spot slots = refl

pub into_rule : (strict : Bool) (targets : List (Name × Option ℕ)) (query : Select) (spot : Spot) (slots : Slots) →
    resolved_stmt spot slots (stmt.Into strict targets query) ≡ n.into_with spot strict targets query slots
unfolding resolved_stmt
into_rule strict targets query spot slots = refl

pub nothing_rule : (spot : Spot) (slots : Slots) → resolved_stmt spot slots stmt.Nothing ≡ record { it = stmt.Nothing; note = own 1 clean; slots = slots }
unfolding resolved_stmt
nothing_rule spot slots = refl

pub arm_rule : (a : Arm) (spot : Spot) (slots : Slots) →
    resolved_arm spot slots a
    ≡ record { it = record { test = (named_expr a.test spot.scope).it; body = (resolved_body spot slots a.body).it }; note = followed (own 1 (named_expr a.test spot.scope).note) (resolved_body spot slots a.body).note; slots = (resolved_body spot slots a.body).slots }
unfolding resolved_arm
arm_rule a spot slots = ap (λ xs. record { it = record { test = (named_expr a.test spot.scope).it; body = xs.it }; note = followed (own 1 (named_expr a.test spot.scope).note) xs.note; slots = xs.slots }) (body_is spot slots a.body)

pub ruleset statement_rules = (block_rule, loop_rule, if_rule, cases_rule, assign_rule, exit_rule, continue_rule, return_rule, raise_rule, into_rule, nothing_rule)
