-- Numbers of columns and aliases that fit a word of the machine. The digits of two numbers that fit
-- one differ.
use Rattle.std.specs.Prelude.{ℕ, ◌<◌, ◌^◌, [], length}
use Rattle.block_forms.specs.Places.{EachAt}
use Rattle.cte_template.specs.CarriedNumbers as carrying
use Rattle.cte_template.specs.CarriedTree as tree
use Rattle.cte_template.specs.Making.{Making}
use Rattle.cte_template.specs.Written.{Walked}

-- label i, counted from 0, whose block is b, behind its gate
abbrev pub walk_of : Making → ℕ → ℕ → Walked
walk_of m = tree.walk_of m []

abbrev pub AliasesFit : Making → ℕ → ℕ → Type 0
AliasesFit m = carrying.AliasesFit m []

pub record NumbersFit (m : Making) : Type 0 where
  pub columns : length m.tail.columns < 2 ^ 64
  pub aliases : EachAt (AliasesFit m) m.tail.labels
