use Rattle.call_answers.proofs.LeafRules.{next_turn_rule, return_rule}
use Rattle.call_answers.proofs.leaves.return_turns.Goals as goal

pub returns-in-Return : goal.returns-in-Return
returns-in-Return c = λ yes. return_rule c.args.w.now c.args.c.now c.args.label.now c.args.e.now c.in-Return.y c.args.x.now c.as_slice-pairs.result.now c.as_slice-pairs.ensures c.in-Return.is c.in-Nobody.ensures (c.same_expr.ensures yes)

pub returns-in-Itself : goal.returns-in-Itself
returns-in-Itself c = λ yes. next_turn_rule c.args.w.now c.args.label.now c.args.c.now c.args.e.now c.in-Itself.args.now c.args.x.now c.as_slice-pairs.result.now c.as_slice-pairs.ensures c.in-Itself.ensures (c.is_next_turn.ensures yes)
