-- What is told of a body in memory, by its parts.
use Rattle.std.proofs.Common.{◌≡◌, ℕ, List, ap, ◌∙◌}
use Rattle.block_forms.specs.declared.forms.Term.{Term}
use Rattle.call_forms.specs.Bodies.{sets, enters, picks}
use Rattle.turn_bodies.specs.declared.bodies.Body.{Body as Tree}
use Rattle.turn_bodies.specs.declared.bodies.Body.TheVariants as tree
use Rattle.turn_bodies.specs.Trees.{as_body}
use Rattle.turn_bodies.proofs.BodyTrees.{of_sets, of_enters, of_picks}

module _ (x : Tree) where
  pub is_sets : (n : ℕ) (t : Term) (y : Tree) → x ≡ tree.Sets n t y → as_body x ≡ sets n t (as_body y)
  is_sets n t y e = ap as_body e ∙ of_sets n t y

  pub is_enters : (params args : List ℕ) (y : Tree) → x ≡ tree.Enters params args y → as_body x ≡ enters params args (as_body y)
  is_enters params args y e = ap as_body e ∙ of_enters params args y

  pub is_picks : (t : Term) (y z : Tree) → x ≡ tree.Picks t y z → as_body x ≡ picks t (as_body y) (as_body z)
  is_picks t y z e = ap as_body e ∙ of_picks t y z
