use Rattle.std.proofs.Common.{◌≡◌, ◌++◌, ◌-◌}
use Rattle.away_gen.specs.Parts.{statements_from}
use Rattle.away_gen.proofs.parts.draw_statements.Given as goal

abbrev pub invariant-loop : goal.invariant-loop
invariant-loop l = l.statements ++ statements_from (l.count - l.counter) l.draws.state ≡ statements_from l.fn.count l.fn.draws.state
