use Rattle.std.proofs.Common.{◌≡◌, take, sum_by}
use Rattle.plsql_run.specs.Layouts.{slots}
use Rattle.plsql_run.proofs.layout.total.Given as goal

abbrev pub invariant-loop-i : goal.invariant-loop-i
invariant-loop-i l = l.sum ≡ sum_by slots (take l.i l.layouts)
