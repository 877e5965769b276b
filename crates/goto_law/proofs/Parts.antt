-- Parts of a form in a row: where all stand, those in front and those behind do.
use Rattle.std.proofs.Common.{List, [], ◌∷◌, ◌++◌}
use Rattle.block_forms.specs.declared.forms.Block.{Block}
use Rattle.block_forms.specs.Lowered.{AllStand}
use Rattle.block_forms.specs.Patterns.{Part}

module _ (blocks : List Block) where
  pub left : (ps qs : List Part) → AllStand blocks (ps ++ qs) → AllStand blocks ps
  left [] qs x = tt
  left (p ∷ ps) qs x = (x.0, left ps qs x.1)

  pub right : (ps qs : List Part) → AllStand blocks (ps ++ qs) → AllStand blocks qs
  right [] qs x = x
  right (p ∷ ps) qs x = right ps qs x.1
