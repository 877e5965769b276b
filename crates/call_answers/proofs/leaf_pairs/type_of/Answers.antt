use Rattle.call_answers.proofs.SlotFacts.{type_is}
use Rattle.call_answers.proofs.leaf_pairs.type_of.Goals as goal

pub returns-in-Some : goal.returns-in-Some
returns-in-Some c = type_is c.args.slots.now c.args.i c.in-Some.s.now c.in-Some.ensures.lookup.3.0 c.in-Some.ensures.lookup.3.1
