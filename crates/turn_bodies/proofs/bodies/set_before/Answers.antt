use Rattle.std.proofs.Common.{ap, ◌∙◌}
use Rattle.call_forms.specs.Bodies.{sets}
use Rattle.turn_bodies.specs.Trees.{as_body}
use Rattle.turn_bodies.proofs.BodyTrees.{of_sets}
use Rattle.turn_bodies.proofs.bodies.set_before.Goals as goal

pub returns : goal.returns
returns c =
    of_sets c.args.name c.in_ok-copied_term.field-0 c.args.rest
    ∙ ap (λ t. sets c.args.name t (as_body c.args.rest)) c.in_ok-copied_term.ensures
