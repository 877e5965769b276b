use Rattle.std.proofs.Common.{◌≡◌, take}
use Rattle.away_core.proofs.copy_statements.+copy_statement.Given as goal

abbrev pub invariant-copy_body-loop-i : goal.invariant-copy_body-loop-i
invariant-copy_body-loop-i l = l.all ≡ take l.i l.list

abbrev pub invariant-copy_arms-loop-i : goal.invariant-copy_arms-loop-i
invariant-copy_arms-loop-i l = l.all ≡ take l.i l.list
