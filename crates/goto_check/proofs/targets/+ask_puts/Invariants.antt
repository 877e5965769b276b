use Rattle.std.proofs.Common.{length}
use Rattle.goto_check.proofs.targets.+ask_puts.Given as goal

abbrev pub decreases-ask_puts : goal.decreases-ask_puts
decreases-ask_puts l = length l.targets.now
