use Rattle.std.proofs.Common.{length}
use Rattle.goto_check.proofs.parameters.+ask_params.Given as goal

abbrev pub decreases-ask_params : goal.decreases-ask_params
decreases-ask_params l = length l.params.now
