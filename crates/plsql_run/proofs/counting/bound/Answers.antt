use Rattle.std.proofs.Common.{sym, subst}
use Rattle.plsql_meaning.specs.Statements.{with_bound}
use Rattle.plsql_run.specs.Continues.{Passes}
use Rattle.plsql_run.proofs.counting.bound.Goals as goal

pub returns : goal.returns
returns c = subst (λ r. Passes (with_bound r) c.args.env.now c.not_null.result) (sym c.in_ok-value.ensures) (c.not_null.ensures c.args.env.now)
