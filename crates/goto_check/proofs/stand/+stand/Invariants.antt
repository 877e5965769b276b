use Rattle.std.proofs.Common.{◌≡◌, drop}
use Rattle.block_forms.specs.Laid.{after, row_size, arms_size, laid_row, laid_arms, row_parts, arms_parts, lack}
use Rattle.goto_check.specs.Asking.{numbers_in, setting_in}
use Rattle.goto_check.specs.AnswerRuns.{answer_run}
use Rattle.goto_check.specs.Enclosing.{around_of}
use Rattle.goto_check.specs.Room.{here, Room}
use Rattle.goto_check.specs.Runs.{join}
use Rattle.goto_check.proofs.stand.+stand.Given as goal

abbrev pub invariant-ask_row-loop-i : goal.invariant-ask_row-loop-i
invariant-ask_row-loop-i l = record {
  room : Room (numbers_in l.a) (after (here l.at) (row_size (laid_row (drop l.i l.list))));
  tells : join l.run (answer_run l.a (row_parts (setting_in l.a) (laid_row (drop l.i l.list)) (here l.at) (around_of l.around) l.next)) ≡ answer_run l.a (row_parts (setting_in l.a) (laid_row l.list) (here l.fn.p) (around_of l.around) l.next);
  end : after (here l.at) (row_size (laid_row (drop l.i l.list))) ≡ after (here l.fn.p) (row_size (laid_row l.list));
}

abbrev pub invariant-ask_arms-loop-i : goal.invariant-ask_arms-loop-i
invariant-ask_arms-loop-i l = record {
  room : Room (numbers_in l.a) (after (here l.at) (arms_size (laid_arms (drop l.i l.arms))));
  tells : join l.run (answer_run l.a (arms_parts (setting_in l.a) (laid_arms (drop l.i l.arms)) (here l.at) (around_of l.around) l.next l.from)) ≡ answer_run l.a (arms_parts (setting_in l.a) (laid_arms l.arms) (here l.fn.p) (around_of l.around) l.next l.b);
  end : after (here l.at) (arms_size (laid_arms (drop l.i l.arms))) ≡ after (here l.fn.p) (arms_size (laid_arms l.arms));
  lack : lack (setting_in l.a) (laid_arms (drop l.i l.arms)) l.from ≡ lack (setting_in l.a) (laid_arms l.arms) l.b;
}
