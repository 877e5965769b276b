-- A statement converted, by its parts.
use Rattle.std.proofs.Common.{◌≡◌, refl, ap, ◌∙◌, ℕ, Bool, List, map, Option, Some, None, option_map}
use Rattle.away_trees.specs.declared.queries.Expr.{Expr}
use Rattle.away_trees.specs.declared.queries.Select.{Select}
use Rattle.away_trees.specs.declared.statements.Arm.{Arm}
use Rattle.away_trees.specs.declared.statements.Decl.{Decl}
use Rattle.away_trees.specs.declared.statements.LoopKind.{LoopKind}
use Rattle.away_trees.specs.declared.statements.Raised.{Raised}
use Rattle.away_trees.specs.declared.statements.Stmt.{Stmt}
use Rattle.away_trees.specs.declared.statements.Stmt.TheVariants as stmt
use Rattle.away_trees.specs.StatementAlgebra.{stmt_of, branch_of}
use Rattle.away_trees.proofs.StatementEquations as e
use Rattle.away_names.proofs.NamingRules.{map_map}
use Rattle.elaboration.specs.Converting as c
use Rattle.elaboration.specs.Converting.{Around, converting, converted, converted_arm}
use Rattle.elaboration.specs.ConvertingLists.{body_in, arms_in, other_in}

body_is : (a : Around) (xs : List Stmt) → c.all_by a (map (λ x. stmt_of converting x) xs) ≡ body_in a xs
unfolding converted
body_is a xs = map_map (λ f. f a) (λ x. stmt_of converting x) xs

arms_are : (a : Around) (xs : List Arm) → c.all_by a (map (λ x. branch_of converting x) xs) ≡ arms_in a xs
unfolding converted_arm
arms_are a xs = map_map (λ f. f a) (λ x. branch_of converting x) xs

other_is : (a : Around) (o : Option (List Stmt)) → option_map (c.all_by a) (option_map (λ xs. map (λ x. stmt_of converting x) xs) o) ≡ other_in a o
other_is a None = refl
other_is a (Some xs) = ap (λ ys. Some ys) (body_is a xs)

pub block_rule : (label : Option (List ℕ)) (decls : List Decl) (body : List Stmt) (closing : Option (List ℕ)) (a : Around) →
    converted a (stmt.Block label decls body closing) ≡ stmt.Block label (c.decls_converted a decls) (body_in a body) closing
unfolding converted
block_rule label decls body closing a =
    ap (λ f. f a) (e.of_block converting label decls body closing) ∙ ap (λ xs. stmt.Block label (c.decls_converted a decls) xs closing) (body_is a body)

pub loop_rule : (label : Option (List ℕ)) (k : LoopKind) (body : List Stmt) (closing : Option (List ℕ)) (a : Around) →
    converted a (stmt.Loop label k body closing) ≡ stmt.Loop label (c.kind_converted a k) (body_in a body) closing
unfolding converted
loop_rule label k body closing a =
    ap (λ f. f a) (e.of_loop converting label k body closing) ∙ ap (λ xs. stmt.Loop label (c.kind_converted a k) xs closing) (body_is a body)

pub if_rule : (arms : List Arm) (other : Option (List Stmt)) (a : Around) → converted a (stmt.If arms other) ≡ stmt.If (arms_in a arms) (other_in a other)
unfolding converted
if_rule arms other a = ap (λ f. f a) (e.of_if converting arms other) ∙ (λ i. stmt.If (arms_are a arms i) (other_is a other i))

pub cases_rule : (arms : List Arm) (other : Option (List Stmt)) (a : Around) → converted a (stmt.Cases arms other) ≡ stmt.Cases (arms_in a arms) (other_in a other)
unfolding converted
cases_rule arms other a = ap (λ f. f a) (e.of_cases converting arms other) ∙ (λ i. stmt.Cases (arms_are a arms i) (other_is a other i))

pub assign_rule : (name : List ℕ) (slot : Option ℕ) (x : Expr) (a : Around) → converted a (stmt.Assign name slot x) ≡ stmt.Assign name slot (c.for_slot (c.slot_type a slot) a.places x)
unfolding converted
assign_rule name slot x a = refl

pub exit_rule : (label : Option (List ℕ)) (when : Option Expr) (a : Around) → converted a (stmt.Exit label when) ≡ stmt.Exit label (c.maybe_marked a.places when)
unfolding converted
exit_rule label when a = refl

pub continue_rule : (label : Option (List ℕ)) (when : Option Expr) (a : Around) → converted a (stmt.Continue label when) ≡ stmt.Continue label (c.maybe_marked a.places when)
unfolding converted
continue_rule label when a = refl

pub return_rule : (x : Expr) (a : Around) → converted a (stmt.Return x) ≡ stmt.Return (c.converted_to a.result a.places x)
unfolding converted
return_rule x a = refl

pub raise_rule : (r : Raised) (a : Around) → converted a (stmt.Raise r) ≡ stmt.Raise r
unfolding converted
raise_rule r a = refl

pub into_rule : (strict : Bool) (targets : List (List ℕ × Option ℕ)) (query : Select) (a : Around) →
    converted a (stmt.Into strict targets query) ≡ stmt.Into strict targets (c.into_converted a targets query)
unfolding converted
into_rule strict targets query a = refl

pub nothing_rule : (a : Around) → converted a stmt.Nothing ≡ stmt.Nothing
unfolding converted
nothing_rule a = refl

pub ruleset statement_rules = (block_rule, loop_rule, if_rule, cases_rule, assign_rule, exit_rule, continue_rule, return_rule, raise_rule, into_rule, nothing_rule)

pub arm_rule : (x : Arm) (a : Around) → converted_arm a x ≡ record { test = c.marked a.places x.test; body = body_in a x.body }
unfolding converted converted_arm
arm_rule x a = ap (λ xs. record { test = c.marked a.places x.test; body = xs }) (body_is a x.body)
