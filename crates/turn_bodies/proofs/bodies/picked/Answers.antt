use Rattle.std.proofs.Common.{ap, ◌∙◌}
use Rattle.call_forms.specs.Bodies.{picks}
use Rattle.turn_bodies.specs.Trees.{as_body}
use Rattle.turn_bodies.proofs.BodyTrees.{of_picks}
use Rattle.turn_bodies.proofs.bodies.picked.Goals as goal

pub returns : goal.returns
returns c =
    of_picks c.in_ok-copied_term.field-0 c.args.yes c.args.no
    ∙ ap (λ t. picks t (as_body c.args.yes) (as_body c.args.no)) c.in_ok-copied_term.ensures
