-- Where a run stands in a list of statements.
use Rattle.std.specs.Prelude.{◌≡◌, ℕ, ◌+◌, ◌<◌, ◌^◌, List, sum_by}
use Rattle.away_trees.specs.declared.statements.Stmt.{Stmt}
use Rattle.plsql_meaning.specs.Slots.{slots_of}
use Rattle.plsql_run.specs.declared.layout.Layout.{Layout}
use Rattle.plsql_run.specs.Layouts.{layouts_of}

-- statements, and the first slot that the text before them doesn't take
pub record ListPosition : Type 0 where
  pub list : List Stmt
  pub at : ℕ

-- the layouts are those of the statements, and there are few slots
pub record IsPlace (list : List Stmt) (layouts : List Layout) (at : ℕ) : Type 0 where
  pub laid : layouts ≡ layouts_of list
  pub few : at + sum_by slots_of list < 2 ^ 64
