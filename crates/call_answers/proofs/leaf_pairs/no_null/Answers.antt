use Rattle.call_answers.proofs.SlotFacts.{no_null_is}
use Rattle.call_answers.proofs.leaf_pairs.no_null.Goals as goal

pub returns-in-Some : goal.returns-in-Some
returns-in-Some c = no_null_is c.args.slots.now c.args.i c.in-Some.s.now c.in-Some.ensures.lookup.3.0 c.in-Some.ensures.lookup.3.1
