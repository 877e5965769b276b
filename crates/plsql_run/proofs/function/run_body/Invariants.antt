use Rattle.plsql_meaning.specs.Statements.{meaning}
use Rattle.plsql_run.specs.Continues.{Stands}
use Rattle.plsql_run.specs.Settings.{meant}
use Rattle.plsql_run.proofs.function.run_body.Given as goal

abbrev pub invariant-turns : goal.invariant-turns
invariant-turns l = let set = meant l.setting in Stands set ((meaning set l.body).run l.at l.fn.env l.bound) l.stack l.env l.left l.signal

abbrev pub decreases-turns : goal.decreases-turns
decreases-turns l = l.left
