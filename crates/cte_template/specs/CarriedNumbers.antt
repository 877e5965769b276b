-- Numbers of columns and aliases that fit a word of the machine, where each row carries further
-- values. The digits of two numbers that fit one differ.
use Rattle.std.specs.Prelude.{ℕ, ◌≤◌, ◌<◌, ◌^◌, List, length}
use Rattle.away_values.specs.declared.types.Ty.{Ty}
use Rattle.block_forms.specs.Places.{EachAt}
use Rattle.cte_template.specs.CarriedTree.{walk_of}
use Rattle.cte_template.specs.Making.{Making}

abbrev pub AliasesFit : Making → List Ty → ℕ → ℕ → Type 0
AliasesFit m carried i b = (walk_of m carried i b).next ≤ 2 ^ 64

pub record NumbersFit (m : Making) (types : List Ty) : Type 0 where
  pub carried : length types < 2 ^ 64
  pub columns : length m.tail.columns < 2 ^ 64
  pub aliases : EachAt (AliasesFit m types) m.tail.labels
