use Rattle.broken_names.proofs.OwnSteps.{set_here}
use Rattle.broken_names.proofs.own_names.in_target.Goals as goal

pub returns-in_ok-copy : goal.returns-in_ok-copy
returns-in_ok-copy c = set_here _ _ c.broken_by_set.ensures c.if-is_sought.ensures c.in_ok-copy.ensures
