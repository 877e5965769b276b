use Rattle.std.proofs.Common.{length}
use Rattle.goto_check.proofs.targets.+ask_picks.Given as goal

abbrev pub decreases-ask_picks : goal.decreases-ask_picks
decreases-ask_picks l = length l.targets.now
