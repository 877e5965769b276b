use Rattle.std.proofs.Common.{length}
use Rattle.goto_check.proofs.leaves.+ask_decls.Given as goal

abbrev pub decreases-ask_decls : goal.decreases-ask_decls
decreases-ask_decls l = length l.decls.now
