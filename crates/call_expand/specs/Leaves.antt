-- Statements without statements in them, with new names, one by one.
use Rattle.std.specs.Prelude.{ℕ, Bool, List, map, Option}
use Rattle.away_trees.specs.declared.queries.Expr.{Expr}
use Rattle.away_trees.specs.declared.queries.Select.{Select}
use Rattle.away_trees.specs.declared.statements.Stmt.{Stmt}
use Rattle.away_trees.specs.declared.statements.Stmt.TheVariants as stmt
use Rattle.away_names.specs.Lookups.{Name}
use Rattle.call_expand.specs.Moving.{By, made, maybe_expr, moved_target}
use Rattle.moved_names.specs.Renamed.{maybe_moved, moved, renamed_select}

module _ (names : List Name) where
  abbrev pub exit_of : Option Name → Option Expr → By Stmt
  exit_of label when seen k = made
      (stmt.Exit (maybe_moved names seen.labels label) (maybe_expr names seen.variables when)) k

  abbrev pub continue_of : Option Name → Option Expr → By Stmt
  continue_of label when seen k = made
      (stmt.Continue (maybe_moved names seen.labels label) (maybe_expr names seen.variables when)) k

  abbrev pub into_of : Bool → List (Name × Option ℕ) → Select → By Stmt
  into_of strict targets query seen k = made
      (stmt.Into strict (map (moved_target names seen.variables) targets)
      (renamed_select (moved names seen.variables) query)) k
