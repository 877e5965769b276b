use Rattle.plsql_meaning.proofs.CounterLaws.{counts_down, counts_up}
use Rattle.plsql_meaning.proofs.laws.counters_end_without_a_fault.Goals as goal

pub returns-clause-up : goal.returns-clause-up
returns-clause-up c = counts_up

pub returns-clause-down : goal.returns-clause-down
returns-clause-down c = counts_down
