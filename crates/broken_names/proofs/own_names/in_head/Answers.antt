use Rattle.broken_names.proofs.Finding.{found_on}
use Rattle.broken_names.proofs.OwnSteps.{for_head, while_head}
use Rattle.broken_names.proofs.own_names.in_head.Goals as goal

pub returns-in-While : goal.returns-in-While
returns-in-While c = found_on (while_head c.in-While.is) _ c.in_expr.ensures

pub returns-in-Count : goal.returns-in-Count
returns-in-Count c = found_on (for_head c.in-Count.is) _ c.in_range.ensures
