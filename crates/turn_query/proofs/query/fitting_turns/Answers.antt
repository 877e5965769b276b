use Rattle.std.proofs.Common.{refl}
use Rattle.turn_query.proofs.FittingRules.{all_turns, most_turns}
use Rattle.turn_query.proofs.query.fitting_turns.Goals as goal

pub returns-then-asked-most : goal.returns-then-asked-most
returns-then-asked-most c = all_turns c.args.steps c.args.asked _ refl c.requires c.if-asked-most.true

pub returns-else-asked-most : goal.returns-else-asked-most
returns-else-asked-most c = most_turns c.args.steps c.args.asked _ refl c.if-steps-ge-MOST_LEVELS.false c.if-asked-most.false
