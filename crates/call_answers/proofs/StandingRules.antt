-- A statement in which calls stand, converted, by its parts.
use Rattle.std.proofs.Common.{◌≡◌, refl, ap, ◌∙◌, ℕ, Bool, List, map, Option, Some, None, option_map}
use Rattle.away_trees.specs.declared.queries.Expr.{Expr}
use Rattle.away_trees.specs.declared.queries.Select.{Select}
use Rattle.away_trees.specs.declared.statements.Arm.{Arm}
use Rattle.away_trees.specs.declared.statements.Decl.{Decl}
use Rattle.away_trees.specs.declared.statements.Function.{Function}
use Rattle.away_trees.specs.declared.statements.LoopKind.{LoopKind}
use Rattle.away_trees.specs.declared.statements.Raised.{Raised}
use Rattle.away_trees.specs.declared.statements.Stmt.{Stmt}
use Rattle.away_trees.specs.declared.statements.Stmt.TheVariants as stmt
use Rattle.away_trees.specs.StatementAlgebra.{stmt_of, branch_of}
use Rattle.away_trees.proofs.StatementEquations as e
use Rattle.away_names.proofs.NamingRules.{map_map}
use Rattle.away_names.specs.Lookups.{Name}
use Rattle.elaboration.specs.Converting as c
use Rattle.elaboration.specs.Converting.{Around, converted}
use Rattle.call_expand.specs.Parts.{arm_with_calls, calling, converted_with_calls, placed_for}

module _ (names : List Name) (fs : List Function) (a : Around) where
  abbrev C : Stmt → Stmt
  C = converted_with_calls names fs a

  body_is : (xs : List Stmt) → c.all_by a (map (λ x. stmt_of (calling names fs) x) xs) ≡ map C xs
  unfolding converted_with_calls
  body_is xs = map_map (λ f. f a) (λ x. stmt_of (calling names fs) x) xs

  arms_are : (xs : List Arm) → c.all_by a (map (λ x. branch_of (calling names fs) x) xs) ≡ map (arm_with_calls names fs a) xs
  unfolding arm_with_calls
  arms_are xs = map_map (λ f. f a) (λ x. branch_of (calling names fs) x) xs

  other_is : (o : Option (List Stmt)) → option_map (c.all_by a) (option_map (λ xs. map (λ x. stmt_of (calling names fs) x) xs) o) ≡ option_map (map C) o
  other_is None = refl
  other_is (Some xs) = ap (λ ys. Some ys) (body_is xs)

  pub block_rule : (label : Option Name) (decls : List Decl) (body : List Stmt) (closing : Option Name) → C (stmt.Block label decls body closing) ≡ stmt.Block label (c.decls_converted a decls) (map C body) closing
  unfolding converted_with_calls
  block_rule label decls body closing = ap (λ f. f a) (e.of_block (calling names fs) label decls body closing) ∙ ap (λ xs. stmt.Block label (c.decls_converted a decls) xs closing) (body_is body)

  pub loop_rule : (label : Option Name) (k : LoopKind) (body : List Stmt) (closing : Option Name) → C (stmt.Loop label k body closing) ≡ stmt.Loop label (c.kind_converted a k) (map C body) closing
  unfolding converted_with_calls
  loop_rule label k body closing = ap (λ f. f a) (e.of_loop (calling names fs) label k body closing) ∙ ap (λ xs. stmt.Loop label (c.kind_converted a k) xs closing) (body_is body)

  pub if_rule : (arms : List Arm) (other : Option (List Stmt)) → C (stmt.If arms other) ≡ stmt.If (map (arm_with_calls names fs a) arms) (option_map (map C) other)
  unfolding converted_with_calls
  if_rule arms other = ap (λ f. f a) (e.of_if (calling names fs) arms other) ∙ (λ i. stmt.If (arms_are arms i) (other_is other i))

  pub cases_rule : (arms : List Arm) (other : Option (List Stmt)) → C (stmt.Cases arms other) ≡ stmt.Cases (map (arm_with_calls names fs a) arms) (option_map (map C) other)
  unfolding converted_with_calls
  cases_rule arms other = ap (λ f. f a) (e.of_cases (calling names fs) arms other) ∙ (λ i. stmt.Cases (arms_are arms i) (other_is other i))

  pub assign_rule : (name : Name) (slot : Option ℕ) (x : Expr) → C (stmt.Assign name slot x) ≡ stmt.Assign name slot (placed_for names fs (c.slot_type a slot) a.places x)
  unfolding converted_with_calls
  assign_rule name slot x = refl

  pub return_rule : (x : Expr) → C (stmt.Return x) ≡ stmt.Return (placed_for names fs (Some a.result) a.places x)
  unfolding converted_with_calls
  return_rule x = refl

  pub exit_rule : (label : Option Name) (when : Option Expr) → C (stmt.Exit label when) ≡ converted a (stmt.Exit label when)
  unfolding converted_with_calls converted
  exit_rule label when = refl

  pub continue_rule : (label : Option Name) (when : Option Expr) → C (stmt.Continue label when) ≡ converted a (stmt.Continue label when)
  unfolding converted_with_calls converted
  continue_rule label when = refl

  pub raise_rule : (r : Raised) → C (stmt.Raise r) ≡ converted a (stmt.Raise r)
  unfolding converted_with_calls converted
  raise_rule r = refl

  pub into_rule : (strict : Bool) (targets : List (Name × Option ℕ)) (query : Select) → C (stmt.Into strict targets query) ≡ converted a (stmt.Into strict targets query)
  unfolding converted_with_calls converted
  into_rule strict targets query = refl

  pub nothing_rule : C stmt.Nothing ≡ converted a stmt.Nothing
  unfolding converted_with_calls converted
  nothing_rule = refl

  pub arm_rule : (x : Arm) → arm_with_calls names fs a x ≡ record { test = c.marked a.places x.test; body = map C x.body }
  unfolding converted_with_calls arm_with_calls
  arm_rule x = ap (λ xs. record { test = c.marked a.places x.test; body = xs }) (body_is x.body)

pub ruleset statement_rules = (block_rule, loop_rule, if_rule, cases_rule, assign_rule, return_rule, exit_rule, continue_rule, raise_rule, into_rule, nothing_rule)
