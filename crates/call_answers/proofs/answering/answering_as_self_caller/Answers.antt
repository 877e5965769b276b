use Rattle.call_answers.proofs.answering.answering_as_self_caller.Goals as goal

pub returns-then-branch : goal.returns-then-branch
returns-then-branch c = record {
  checked_is = c.in_ok-c.ensures;
  answers = c.untailings_answer_as_self_callers.ensures c.args.s.now.schema c.args.f.now c.in_ok-c.c.function c.in_ok-c.c.slots (c.in_ok-has_self_calls_as_turns.ensures c.if-branch.true);
}
