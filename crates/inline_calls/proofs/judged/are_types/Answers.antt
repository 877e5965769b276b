use Rattle.std.proofs.Common.{sym, ◌∙◌}
use Rattle.inline_calls.proofs.JudgedRules.{none_left}
use Rattle.inline_calls.proofs.judged.are_types.Goals as goal

pub returns-in-empty : goal.returns-in-empty
returns-in-empty c = sym (c.loop-t.invariant ∙ none_left c.args.left.now c.loop-t.rest.now c.loop-t.t-index c.loop-t-test.true c.in-empty.len_below)
