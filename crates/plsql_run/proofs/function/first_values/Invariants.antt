use Rattle.std.proofs.Common.{◌≡◌, take, replicate, ◌++◌}
use Rattle.away_values.specs.declared.values.Value.TheVariants as val
use Rattle.plsql_run.proofs.function.first_values.Given as goal

abbrev pub invariant-loop-i : goal.invariant-loop-i
invariant-loop-i l = l.env ≡ take l.i l.args

abbrev pub invariant-loop : goal.invariant-loop
invariant-loop l = l.env ≡ l.args ++ replicate l.counter val.Null
