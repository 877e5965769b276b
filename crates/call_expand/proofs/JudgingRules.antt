-- A statement as it is judged, by its parts.
use Rattle.std.proofs.Common.{◌≡◌, refl, sym, ap, ◌∙◌, ℕ, zero, suc, ◌<◌, Bool, true, List, [], ◌∷◌, length, map, get_or, Bor, Option, Some, option_map, arith}
use Rattle.away_trees.specs.declared.queries.Expr.{Expr}
use Rattle.away_trees.specs.declared.queries.Select.{Select}
use Rattle.away_trees.specs.declared.statements.Arm.{Arm}
use Rattle.away_trees.specs.declared.statements.Decl.{Decl}
use Rattle.away_trees.specs.declared.statements.Function.{Function}
use Rattle.away_trees.specs.declared.statements.LoopKind.{LoopKind}
use Rattle.away_trees.specs.declared.statements.Raised.{Raised}
use Rattle.away_trees.specs.declared.statements.Stmt.{Stmt}
use Rattle.away_trees.specs.declared.statements.Stmt.TheVariants as stmt
use Rattle.away_trees.proofs.StatementEquations as e
use Rattle.away_names.specs.Lookups.{Name}
use Rattle.call_expand.specs.CallPlaces.{called, maybe_called}
use Rattle.call_expand.specs.Expanding.{call_place, function_at, names_of}
use Rattle.call_expand.specs.Judges as whose
use Rattle.call_expand.specs.Judging.{judging, judged_stmt, judged_arm, judged_as, judged_assigned, judged_call, judged_place}
use Rattle.call_expand.specs.declared.judged.Callees.{Callees}
use Rattle.call_expand.specs.declared.judged.Callees.TheVariants as callees
use Rattle.call_expand.specs.declared.places.Place.{Place}

module _ (all : Bool) (names : List Name) (fs : List Function) where
  abbrev J : Stmt → Stmt
  J = judged_stmt all names fs

  pub block_rule : (label : Option Name) (decls : List Decl) (body : List Stmt) (closing : Option Name) → J (stmt.Block label decls body closing) ≡ stmt.Block label decls (map J body) closing
  unfolding judged_stmt
  block_rule label decls body closing = e.of_block (judging all names fs) label decls body closing

  pub loop_rule : (label : Option Name) (kind : LoopKind) (body : List Stmt) (closing : Option Name) → J (stmt.Loop label kind body closing) ≡ stmt.Loop label kind (map J body) closing
  unfolding judged_stmt
  loop_rule label kind body closing = e.of_loop (judging all names fs) label kind body closing

  pub if_rule : (arms : List Arm) (other : Option (List Stmt)) → J (stmt.If arms other) ≡ stmt.If (map (judged_arm all names fs) arms) (option_map (map J) other)
  unfolding judged_stmt judged_arm
  if_rule arms other = e.of_if (judging all names fs) arms other

  pub cases_rule : (arms : List Arm) (other : Option (List Stmt)) → J (stmt.Cases arms other) ≡ stmt.Cases (map (judged_arm all names fs) arms) (option_map (map J) other)
  unfolding judged_stmt judged_arm
  cases_rule arms other = e.of_cases (judging all names fs) arms other

  pub assign_rule : (name : Name) (slot : Option ℕ) (x : Expr) → J (stmt.Assign name slot x) ≡ stmt.Assign name slot (judged_assigned all names fs x)
  unfolding judged_stmt
  assign_rule name slot x = refl

  pub return_rule : (x : Expr) → J (stmt.Return x) ≡ stmt.Return (judged_place all names fs x)
  unfolding judged_stmt
  return_rule x = refl

  pub exit_rule : (label : Option Name) (when : Option Expr) → J (stmt.Exit label when) ≡ stmt.Exit label when
  unfolding judged_stmt
  exit_rule label when = refl

  pub continue_rule : (label : Option Name) (when : Option Expr) → J (stmt.Continue label when) ≡ stmt.Continue label when
  unfolding judged_stmt
  continue_rule label when = refl

  pub raise_rule : (raised : Raised) → J (stmt.Raise raised) ≡ stmt.Raise raised
  unfolding judged_stmt
  raise_rule raised = refl

  pub into_rule : (strict : Bool) (targets : List (Name × Option ℕ)) (query : Select) → J (stmt.Into strict targets query) ≡ stmt.Into strict targets query
  unfolding judged_stmt
  into_rule strict targets query = refl

  pub nothing_rule : J stmt.Nothing ≡ stmt.Nothing
  unfolding judged_stmt
  nothing_rule = refl

  pub arm_rule : (a : Arm) → judged_arm all names fs a ≡ record { test = a.test; body = map J a.body }
  unfolding judged_stmt judged_arm
  arm_rule a = refl

pub ruleset statement_rules = (block_rule, loop_rule, if_rule, cases_rule, assign_rule, return_rule, exit_rule, continue_rule, raise_rule, into_rule, nothing_rule)

-- ---- a call of one of several functions

pub function_is : (fs : List Function) (i : ℕ) (g : Function) → i < length fs → g ≡ get_or fs i g → function_at fs i ≡ g
function_is [] i g lt e = absurd (omega (arith, lt))
function_is (f ∷ fs) zero g lt e = sym e
function_is (f ∷ fs) (suc i) g lt e = function_is fs i g (omega (arith, lt)) e

pub call_is : (fs : Bor (List Function)) (e : Expr) (c : Callees) (o : Option Place) (p : Place) (g : Function) → c ≡ callees.All fs → maybe_called o ≡ call_place (names_of fs.now) e → o ≡ Some p
    → p.part < length fs.now → g ≡ get_or fs.now p.part g → judged_call g p.args.now ≡ judged_place (whose.everywhere c) (whose.names c) (whose.functions c) e
call_is fs e c o p g is found some lt there =
    let place : Some (called p) ≡ call_place (names_of fs.now) e = sym (ap maybe_called some) ∙ found in
    ap (λ h. judged_call h p.args.now) (sym (function_is fs.now p.part g lt there))
    ∙ (ap (λ x. judged_as true (names_of fs.now) fs.now x e) place ∙ ap (λ d. judged_place (whose.everywhere d) (whose.names d) (whose.functions d) e) (sym is))
