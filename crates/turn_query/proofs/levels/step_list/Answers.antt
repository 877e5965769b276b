use Rattle.turn_query.proofs.LevelRules.{step_list_is}
use Rattle.turn_query.proofs.levels.step_list.Goals as goal

pub returns : goal.returns
returns c =
    step_list_is c.args.many c.args.step.now c.in_ok-copy.field-0 c.in_ok-list.list c.add.new.list c.in_ok-list.ensures c.in_ok-copy.ensures
    c.in_ok-add.ensures
