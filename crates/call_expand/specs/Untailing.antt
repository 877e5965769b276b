-- The function in which self calls are turns of a loop.
use Rattle.std.specs.Prelude.{
  ◌≡◌,
  ◌≤◌,
  ℕ,
  zero,
  suc,
  ◌+◌,
  List,
  [],
  ◌∷◌,
  ◌++◌,
  length,
  Option,
  Some,
  None,
  is_some,
  if◌then◌else◌,
}
use Rattle.away_values.specs.declared.types.Ty.{Ty}
use Rattle.away_trees.specs.declared.queries.Expr.{Expr}
use Rattle.away_trees.specs.declared.queries.Expr.TheVariants as expr
use Rattle.away_trees.specs.declared.schemas.Schema.{Schema}
use Rattle.away_trees.specs.declared.statements.Decl.{Decl}
use Rattle.away_trees.specs.declared.statements.Function.{Function}
use Rattle.away_trees.specs.declared.statements.LoopKind.TheVariants as kind
use Rattle.away_trees.specs.declared.statements.Stmt.{Stmt}
use Rattle.away_trees.specs.declared.statements.Stmt.TheVariants as stmt
use Rattle.away_trees.specs.StatementAlgebra.{stmt_of}
use Rattle.away_names.specs.declared.scope.Variable.{Variable}
use Rattle.away_names.specs.Functions.{function}
use Rattle.away_names.specs.Lookups.{Name}
use Rattle.call_meaning.specs.Calls.{Called}
use Rattle.moved_names.specs.Fresh.{AreFresh}
use Rattle.moved_names.specs.Renamed.{name_at, moved}
use Rattle.call_expand.specs.declared.made.Made.{Made}
use Rattle.call_expand.specs.Moving.{
  made,
  By,
  moved_expr,
  moving,
  moved_params,
  seeing_params,
}
use Rattle.call_expand.specs.Expanding.{call_place, falls_off, plain_decl, strict_test, variable}

-- the names by which a function calls itself: none, where it has that of an operator's function
abbrev pub self_names : Function → List Name
self_names f = if is_some (function f.name) then [] else f.name ∷ []

-- the place of the loop's label, behind the parameters and as many variables
abbrev pub label : Function → ℕ
label f = length f.params + length f.params

module _ (names : List Name) where
  -- the values of the next turn: each argument in a variable of its own
  abbrev pub sets : List Variable → ℕ → List Expr → List Stmt
  sets variables k [] = []
  sets variables k (a ∷ as_) =
      stmt.Assign (name_at names k) None (moved_expr names variables a) ∷ sets variables (suc k) as_

  -- so many variables from j on become those from i on
  abbrev pub moves : ℕ → ℕ → ℕ → List Stmt
  moves zero i j = []
  moves (suc n) i j =
      stmt.Assign (name_at names i) None (variable names j) ∷ moves n (suc i) (suc j)

  -- as many variables, behind the parameters
  abbrev pub declared : ℕ → List (Name × Ty) → List Decl
  declared k [] = []
  declared k (p ∷ ps) = plain_decl names k p.1 None ∷ declared (suc k) ps

  module _ (f : Function) where
    -- the block that a self call becomes
    abbrev pub next_turn : List Variable → List Expr → Stmt
    next_turn variables args = stmt.Block None []
        (sets variables (length f.params) args ++ (moves (length f.params) 0 (length f.params)
        ++ (strict_test names f.strict (length f.params) 0 (stmt.Return expr.Null)
        ++ stmt.Continue (Some (name_at names (label f))) None ∷ []))) None

    abbrev pub returned_as : Option Called → Expr → By Stmt
    returned_as None e seen k = made (stmt.Return (moved_expr names seen.variables e)) k
    returned_as (Some c) e seen k = made (next_turn seen.variables c.args) k

    abbrev pub returned : Expr → By Stmt
    returned e = returned_as (call_place (self_names f) e) e

    abbrev pub assigned : Name → Expr → By Stmt
    assigned name e seen k =
        made (stmt.Assign (moved names seen.variables name) None
        (moved_expr names seen.variables e)) k

    -- the old body, whose own names stand behind the label
    abbrev pub old_body : Made Stmt
    old_body = stmt_of (moving names assigned returned) f.body (seeing_params 0 f.params)
        (suc (label f))

    -- the loop whose turns are runs of a body, and the block around it
    abbrev pub turning_loop : Stmt → Stmt
    turning_loop old =
        stmt.Loop (Some (name_at names (label f))) kind.Plain (old ∷ falls_off ∷ []) None

    abbrev pub turning_body : Stmt → Stmt
    turning_body old = stmt.Block None (declared (length f.params) f.params)
        (turning_loop old ∷ []) None

    abbrev pub untailed_with : Function
    untailed_with = record {
      name = f.name;
      strict = f.strict;
      params = moved_params names 0 f.params;
      result = f.result;
      body = turning_body old_body.it;
    }

-- The function with its self calls as turns of a loop, whose names are the first that stand in no
-- file.
pub record IsUntailing (s : Schema) (f g : Function) : Type 0 where
  pub names : List Name
  pub fresh : AreFresh s (f ∷ []) names
  pub enough : (old_body names f).next ≤ length names
  pub is : g ≡ untailed_with names f
