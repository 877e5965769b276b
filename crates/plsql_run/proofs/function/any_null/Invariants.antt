use Rattle.std.proofs.Common.{◌≡◌, take, false}
use Rattle.std.specs.List.{list_any}
use Rattle.away_values.specs.Operators.{is_null}
use Rattle.plsql_run.proofs.function.any_null.Given as goal

abbrev pub invariant-loop-i : goal.invariant-loop-i
invariant-loop-i l = list_any is_null (take l.i l.args) ≡ false
