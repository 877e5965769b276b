-- What a statement asks of types, by its parts.
use Rattle.std.proofs.Common.{◌≡◌, refl, ap, ◌∙◌, ℕ, Bool, List, map, length, Option, Some, None, option_map}
use Rattle.away_values.specs.declared.types.Ty.TheVariants.{Boolean}
use Rattle.away_trees.specs.declared.queries.Expr.{Expr}
use Rattle.away_trees.specs.declared.queries.Select.{Select}
use Rattle.away_trees.specs.declared.statements.Arm.{Arm}
use Rattle.away_trees.specs.declared.statements.Decl.{Decl}
use Rattle.away_trees.specs.declared.statements.LoopKind.{LoopKind}
use Rattle.away_trees.specs.declared.statements.Raised.{Raised}
use Rattle.away_trees.specs.declared.statements.Stmt.{Stmt}
use Rattle.away_trees.specs.declared.statements.Stmt.TheVariants as stmt
use Rattle.away_trees.specs.StatementAlgebra.{stmt_of, branch_of}
use Rattle.away_trees.proofs.StatementEquations as e
use Rattle.away_names.specs.Notes.{clean}
use Rattle.away_names.specs.Lookups.{Name}
use Rattle.away_names.proofs.NamingRules.{fold_map}
use Rattle.away_types.specs.Findings.{own, own_with, followed, branched}
use Rattle.away_types.specs.StatementTypes as t
use Rattle.away_types.specs.StatementTypes.{Asked, asking, asked_stmt, asked_arm, asked_body, asked_arms, asked_other}

body_asks : (a : Asked) (xs : List Stmt) → t.all_by (map (λ x. stmt_of asking x) xs) a ≡ asked_body a xs
unfolding asked_stmt
body_asks a xs = fold_map _ _ _ xs

arms_ask : (a : Asked) (xs : List Arm) → t.all_by (map (λ x. branch_of asking x) xs) a ≡ asked_arms a xs
unfolding asked_arm
arms_ask a xs = fold_map _ _ _ xs

other_asks : (a : Asked) (o : Option (List Stmt)) → t.maybe_by (option_map (λ xs. map (λ x. stmt_of asking x) xs) o) a ≡ asked_other a o
other_asks a None = refl
other_asks a (Some xs) = ap (followed (own 1 clean)) (body_asks a xs)

pub block_asks : (a : Asked) (label : Option Name) (decls : List Decl) (body : List Stmt) (closing : Option Name) →
    asked_stmt a (stmt.Block label decls body closing) ≡ followed (own_with (length decls) (t.defaults decls a)) (asked_body a body)
unfolding asked_stmt
block_asks a label decls body closing = ap (λ f. f a) (e.of_block asking label decls body closing) ∙ ap (followed (own_with (length decls) (t.defaults decls a))) (body_asks a body)

pub loop_asks : (a : Asked) (label : Option Name) (k : LoopKind) (body : List Stmt) (closing : Option Name) →
    asked_stmt a (stmt.Loop label k body closing) ≡ followed (own 1 (t.head_asked k a)) (asked_body a body)
unfolding asked_stmt
loop_asks a label k body closing = ap (λ f. f a) (e.of_loop asking label k body closing) ∙ ap (followed (own 1 (t.head_asked k a))) (body_asks a body)

pub if_asks : (a : Asked) (arms : List Arm) (other : Option (List Stmt)) → asked_stmt a (stmt.If arms other) ≡ branched (asked_arms a arms) (asked_other a other)
unfolding asked_stmt
if_asks a arms other = ap (λ f. f a) (e.of_if asking arms other) ∙ (λ i. branched (arms_ask a arms i) (other_asks a other i))

pub cases_ask : (a : Asked) (arms : List Arm) (other : Option (List Stmt)) → asked_stmt a (stmt.Cases arms other) ≡ branched (asked_arms a arms) (asked_other a other)
unfolding asked_stmt
cases_ask a arms other = ap (λ f. f a) (e.of_cases asking arms other) ∙ (λ i. branched (arms_ask a arms i) (other_asks a other i))

pub assign_asks : (a : Asked) (name : Name) (slot : Option ℕ) (x : Expr) → asked_stmt a (stmt.Assign name slot x) ≡ own 1 (t.asked_of_slot a (t.slot_of a slot) x)
unfolding asked_stmt
assign_asks a name slot x = refl

pub exit_asks : (a : Asked) (label : Option Name) (when : Option Expr) → asked_stmt a (stmt.Exit label when) ≡ own 1 (t.maybe_asked a Boolean when)
unfolding asked_stmt
exit_asks a label when = refl

pub continue_asks : (a : Asked) (label : Option Name) (when : Option Expr) → asked_stmt a (stmt.Continue label when) ≡ own 1 (t.maybe_asked a Boolean when)
unfolding asked_stmt
continue_asks a label when = refl

pub return_asks : (a : Asked) (x : Expr) → asked_stmt a (stmt.Return x) ≡ own 1 (t.asked a a.result x)
unfolding asked_stmt
return_asks a x = refl

pub raise_asks : (a : Asked) (r : Raised) → asked_stmt a (stmt.Raise r) ≡ own 1 clean
unfolding asked_stmt
raise_asks a r = refl

pub into_asks : (a : Asked) (strict : Bool) (targets : List (Name × Option ℕ)) (query : Select) → asked_stmt a (stmt.Into strict targets query) ≡ own_with (length targets) (t.asked_of_targets a targets query)
unfolding asked_stmt
into_asks a strict targets query = refl

pub nothing_asks : (a : Asked) → asked_stmt a stmt.Nothing ≡ own 1 clean
unfolding asked_stmt
nothing_asks a = refl

pub arm_asks : (a : Asked) (x : Arm) → asked_arm a x ≡ followed (own 1 (t.asked a Boolean x.test)) (asked_body a x.body)
unfolding asked_arm
arm_asks a x = ap (followed (own 1 (t.asked a Boolean x.test))) (body_asks a x.body)

pub ruleset asking_rules = (block_asks, loop_asks, if_asks, cases_ask, assign_asks, exit_asks, continue_asks, return_asks, raise_asks, into_asks, nothing_asks)
