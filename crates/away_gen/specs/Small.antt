-- How large a case is.
use Rattle.std.specs.Prelude.{◌<◌, ◌≤◌, length}
use Rattle.std.specs.List.{AllByRecursion}
use Rattle.away_gen.specs.declared.parts.Parts.{Parts}
use Rattle.away_gen.specs.declared.parts.Row.{Row}
use Rattle.away_gen.specs.declared.parts.Statement.{Statement}

pub record IsSmallRow (r : Row) : Type 0 where
  pub src : r.src < 10
  pub dst : r.dst < 10
  pub cost : r.cost < 1000

-- over v0 to v3
pub record IsSmallStatement (s : Statement) : Type 0 where
  pub target : s.target < 4
  pub source : s.source < 4
  pub positive : 1 ≤ s.constant
  pub constant : s.constant ≤ 99

pub record IsSmall (parts : Parts) : Type 0 where
  pub rows : (50 ≤ length parts.rows) × (length parts.rows ≤ 99)
  pub each_row : AllByRecursion IsSmallRow parts.rows
  pub first : parts.first < 1000
  pub second : parts.second < 1000
  pub statements : (40 ≤ length parts.statements) × (length parts.statements ≤ 63)
  pub each_statement : AllByRecursion IsSmallStatement parts.statements
