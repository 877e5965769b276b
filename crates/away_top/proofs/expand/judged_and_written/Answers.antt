use Rattle.std.proofs.Common.{[]}
use Rattle.away_top.specs.Steps.{run_end}
use Rattle.away_top.proofs.ProgramEnds.{refused_so, written_so}
use Rattle.away_top.proofs.expand.judged_and_written.Goals as goal

pub returns-in-Ok : goal.returns-in-Ok
returns-in-Ok c = (
  c.written.ensures.0,
  written_so c.args.main.now _ c.written.ensures.0 c.args.tables.now.schema c.args.fs.now (run_end c.written.result) c.in-Ok.ensures.ok c.written.ensures.1,
)

pub returns-in-Err : goal.returns-in-Err
returns-in-Err c = (
  [],
  refused_so c.args.main.now _ [] c.args.tables.now.schema c.args.fs.now c.in-Err.error (run_end c.refused_program.result) c.in-Err.ensures.err c.refused_program.ensures,
)
