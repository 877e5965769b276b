use Rattle.call_answers.proofs.answering.answering_as_program.Goals as goal

pub returns-then-branch : goal.returns-then-branch
returns-then-branch c = record {
  checked_is = c.in_ok-c.ensures;
  answers = c.expansions_answer_as_programs.ensures c.args.s.now.schema c.args.fs.now c.in_ok-c.c.function c.in_ok-c.c.slots (c.in_ok-has_calls_expanded.ensures c.if-branch.true);
}
