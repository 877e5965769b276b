-- What the expressions of a checked function read.
use Rattle.std.specs.Prelude.{◌≡◌, ℕ, ◌<◌, ◌^◌, true, false, List, length}
use Rattle.away_trees.specs.declared.queries.Expr.{Expr}
use Rattle.away_trees.specs.declared.schemas.Schema.{Schema}
use Rattle.away_trees.specs.declared.statements.Function.{Function}
use Rattle.away_types.specs.declared.slots.Slot.{Slot}
use Rattle.away_types.specs.CheckedFunctions.{IsChecked}
use Rattle.sql_meaning.specs.Meaning.{has_aggregate}
use Rattle.sql_meaning.specs.Reads.{fits}
use Rattle.block_forms.specs.Expressions.{expressions}
use Rattle.block_forms.specs.Places.{Each}

-- An expression over so many tables reads slots and those tables alone, and no aggregate stands in
-- it outside a select's list.
pub record IsOverTables (tables : ℕ) (e : Expr) : Type 0 where
  pub reads_own : fits (λ i. true) 0 tables e ≡ true
  pub single : has_aggregate e ≡ false

-- The expressions of a checked function and the fixed ones behind them are over the tables of the
-- schema that it was checked under.
abbrev pub ReadTheirTables : Type 0
ReadTheirTables =
    (s : Schema) (written f : Function) (slots : List Slot) → IsChecked s written f slots → length s.tables < 2 ^ 64
    → Each (IsOverTables (length s.tables)) (expressions f)
