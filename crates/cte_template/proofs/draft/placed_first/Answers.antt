use Rattle.std.proofs.Common.{ap, ◌∙◌}
use Rattle.cte_template.specs.Places.{place_of, first_of}
use Rattle.cte_template.proofs.PlaceRules.{one_stands}
use Rattle.cte_template.proofs.draft.placed_first.Goals as goal

pub returns : goal.returns
returns c = ap place_of c.in_ok-push.ensures.ok ∙ one_stands c.args.pairs c.args.name (first_of c.args.depth c.args.item)
