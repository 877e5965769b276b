use Rattle.std.proofs.Common.{ap, ◌∙◌, slice_get}
use Rattle.call_forms.specs.Bodies.{enters}
use Rattle.call_forms.specs.Forms.{params_of}
use Rattle.turn_bodies.specs.Trees.{as_body}
use Rattle.turn_bodies.proofs.BodyTrees.{of_enters}
use Rattle.turn_bodies.proofs.bodies.entered.Goals as goal

pub returns : goal.returns
returns c =
    let params = c.in_ok-params.ensures ∙ c.params_of.ensures in
    let args = c.in_ok-args.ensures ∙ c.as_slice.ensures in
    of_enters c.in_ok-params.params c.in_ok-args.args c.args.rest
    ∙ (ap (λ l. enters l c.in_ok-args.args (as_body c.args.rest)) params
    ∙ ap (λ l. enters (params_of (slice_get c.args.anf.now.blocks c.args.call.now.target)) l (as_body c.args.rest)) args)
