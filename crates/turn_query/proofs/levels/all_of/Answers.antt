use Rattle.std.proofs.Common.{◌∙◌}
use Rattle.turn_query.proofs.LevelRules.{all_of_is}
use Rattle.turn_query.proofs.levels.all_of.Goals as goal

pub returns : goal.returns
returns c =
    c.in_ok-new.ensures
    ∙ (c.select.ensures
    ∙ all_of_is c.args.columns c.in_ok-sum.field-0 c.in_ok-list.list c.args.from c.in_ok-from.from c.in_ok-sum.ensures c.in_ok-list.ensures c.in_ok-from.ensures)
