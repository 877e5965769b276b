-- Parts that stand, one list behind the other.
use Rattle.std.proofs.Common.{List, [], ◌∷◌, ◌++◌}
use Rattle.block_forms.specs.declared.forms.Block.{Block}
use Rattle.block_forms.specs.Patterns.{Part}
use Rattle.block_forms.specs.Lowered.{AllStand}

pub join : (blocks : List Block) (xs ys : List Part) → AllStand blocks xs → AllStand blocks ys → AllStand blocks (xs ++ ys)
join blocks [] ys s t = t
join blocks (x ∷ xs) ys s t = (s.0, join blocks xs ys s.1 t)
