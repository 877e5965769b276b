use Rattle.std.proofs.Common.{subst}
use Rattle.away_types.specs.FunctionChecks.{function_note}
use Rattle.away_types.specs.Refusals.{RefusesFunction}
use Rattle.away_top.specs.Steps.{run_end}
use Rattle.away_top.proofs.Explaining.{broken_so}
use Rattle.away_top.proofs.explain.refused_by.Goals as goal

pub returns-in-Broken : goal.returns-in-Broken
returns-in-Broken c =
    let s = c.args.tables.now.schema in
    let f = c.args.function.now in
    let first = subst (RefusesFunction (function_note s f)) c.in-Broken.is c.requires.refuses in
    broken_so c.args.func.now s c.args.bytes.now f c.requires.reads c.in-Broken.finding (run_end c.broken.result) first c.broken.ensures
