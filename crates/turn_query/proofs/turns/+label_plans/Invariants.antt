use Rattle.std.proofs.Common.{length}
use Rattle.turn_query.proofs.turns.+label_plans.Given as goal

abbrev pub decreases-label_plans : goal.decreases-label_plans
decreases-label_plans l = length l.labels.now
