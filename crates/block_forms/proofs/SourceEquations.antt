-- The source expressions of a statement, by its parts.
use Rattle.std.proofs.Common.{◌≡◌, ℕ, List, [], ◌∷◌, ◌++◌, Option, Some, None, Bool, refl, ap, ◌∙◌, map, flat_map}
use Rattle.std.proofs.lemmas.List.{flat_map_more, append-nil, append_assoc}
use Rattle.away_trees.specs.declared.queries.Expr.{Expr}
use Rattle.away_trees.specs.declared.queries.Select.{Select}
use Rattle.away_trees.specs.declared.statements.Arm.{Arm}
use Rattle.away_trees.specs.declared.statements.Decl.{Decl}
use Rattle.away_trees.specs.declared.statements.LoopKind.{LoopKind}
use Rattle.away_trees.specs.declared.statements.Raised.{Raised}
use Rattle.away_trees.specs.declared.statements.Stmt.{Stmt}
use Rattle.away_trees.specs.declared.statements.Stmt.TheVariants as stmt
use Rattle.away_trees.specs.StatementAlgebra.{stmt_of, branch_of}
use Rattle.away_trees.proofs.StatementEquations.{of_block, of_loop, of_if, of_cases}
use Rattle.block_forms.specs.Expressions.{Sources, Entries, in_turn, if_there, default_of, defaults, of_kind, sourcing, sources, sources_of_arm}

in_turn_map : {X : Type 0} (f : X → Sources) (xs : List X) → in_turn (map f xs) ≡ flat_map f xs
in_turn_map f [] = refl
in_turn_map f (x ∷ xs) = ap (λ ys. f x ++ ys) (in_turn_map f xs)

defaults_are : (ds : List Decl) → defaults ds ≡ flat_map default_of ds
defaults_are [] = refl
defaults_are (d ∷ ds) = ap (λ xs. default_of d ++ xs) (defaults_are ds)

module _ (entries : Entries) where
  body_sources : (body : List Stmt) → in_turn (map (λ s. stmt_of (sourcing entries) s) body) ≡ flat_map (sources entries) body
  unfolding sources
  body_sources body = in_turn_map (λ s. stmt_of (sourcing entries) s) body

  arms_sources : (arms : List Arm) → in_turn (map (λ x. branch_of (sourcing entries) x) arms) ≡ flat_map (sources_of_arm entries) arms
  unfolding sources_of_arm
  arms_sources arms = in_turn_map (λ x. branch_of (sourcing entries) x) arms

  -- what stands behind an ELSE
  unfoldable pub else_sources : Option (List Stmt) → Sources
  else_sources None = []
  else_sources (Some body) = flat_map (sources entries) body

  pub no_else : else_sources None ≡ []
  unfolding else_sources
  no_else = refl

  pub else_is : (body : List Stmt) → else_sources (Some body) ≡ flat_map (sources entries) body
  unfolding else_sources
  else_is body = refl

  pub block_sources : (label : Option (List ℕ)) (decls : List Decl) (body : List Stmt) (closing : Option (List ℕ)) →
      sources entries (stmt.Block label decls body closing) ≡ flat_map default_of decls ++ flat_map (sources entries) body
  unfolding sources
  block_sources label decls body closing = of_block (sourcing entries) label decls body closing ∙ (λ i. defaults_are decls i ++ body_sources body i)

  pub loop_sources : (label : Option (List ℕ)) (kind : LoopKind) (body : List Stmt) (closing : Option (List ℕ)) →
      sources entries (stmt.Loop label kind body closing) ≡ of_kind kind ++ flat_map (sources entries) body
  unfolding sources
  loop_sources label kind body closing = of_loop (sourcing entries) label kind body closing ∙ ap (λ xs. of_kind kind ++ xs) (body_sources body)

  pub if_sources : (arms : List Arm) (other : Option (List Stmt)) → sources entries (stmt.If arms other) ≡ flat_map (sources_of_arm entries) arms ++ else_sources other
  unfolding sources else_sources
  if_sources arms None = of_if (sourcing entries) arms None ∙ ap (λ xs. xs ++ []) (arms_sources arms)
  if_sources arms (Some body) = of_if (sourcing entries) arms (Some body) ∙ (λ i. arms_sources arms i ++ body_sources body i)

  pub cases_sources : (arms : List Arm) (other : Option (List Stmt)) → sources entries (stmt.Cases arms other) ≡ flat_map (sources_of_arm entries) arms ++ else_sources other
  unfolding sources else_sources
  cases_sources arms None = of_cases (sourcing entries) arms None ∙ ap (λ xs. xs ++ []) (arms_sources arms)
  cases_sources arms (Some body) = of_cases (sourcing entries) arms (Some body) ∙ (λ i. arms_sources arms i ++ body_sources body i)

  pub assign_sources : (name : List ℕ) (slot : Option ℕ) (e : Expr) → sources entries (stmt.Assign name slot e) ≡ e ∷ []
  unfolding sources
  assign_sources name slot e = refl

  pub exit_sources : (label : Option (List ℕ)) (when : Option Expr) → sources entries (stmt.Exit label when) ≡ if_there when
  unfolding sources
  exit_sources label when = refl

  pub continue_sources : (label : Option (List ℕ)) (when : Option Expr) → sources entries (stmt.Continue label when) ≡ if_there when
  unfolding sources
  continue_sources label when = refl

  pub return_sources : (e : Expr) → sources entries (stmt.Return e) ≡ e ∷ []
  unfolding sources
  return_sources e = refl

  pub raise_sources : (raised : Raised) → sources entries (stmt.Raise raised) ≡ []
  unfolding sources
  raise_sources raised = refl

  pub into_sources : (strict : Bool) (targets : List (List ℕ × Option ℕ)) (query : Select) →
      sources entries (stmt.Into strict targets query) ≡ entries strict targets query
  unfolding sources
  into_sources strict targets query = refl

  pub nothing_sources : sources entries stmt.Nothing ≡ []
  unfolding sources
  nothing_sources = refl

  pub arm_sources : (x : Arm) → sources_of_arm entries x ≡ x.test ∷ flat_map (sources entries) x.body
  unfolding sources_of_arm
  arm_sources x = ap (λ xs. x.test ∷ xs) (body_sources x.body)

pub ruleset list_rules = (flat_map_more, append-nil, append_assoc)

pub ruleset source_rules =
    (block_sources, loop_sources, if_sources, cases_sources, no_else, else_is, assign_sources, exit_sources, continue_sources, return_sources, raise_sources, into_sources, nothing_sources, arm_sources, list_rules)
