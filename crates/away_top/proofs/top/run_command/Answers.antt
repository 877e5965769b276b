use Rattle.std.proofs.Common.{[], subst, sym}
use Rattle.away_top.specs.declared.command.Command.{Command}
use Rattle.away_top.specs.Commands.{as_command, course_of}
use Rattle.away_top.specs.Runs.{Runs}
use Rattle.away_top.specs.Steps.{run_end}
use Rattle.away_top.proofs.top.run_command.Goals as goal

pub returns-in-Compile : goal.returns-in-Compile
returns-in-Compile g c =
    subst (λ (x : Command). Runs g.F.Files c.args.files.now (course_of (as_command x)) c.compile.new.files (run_end c.compile.result)) (sym c.in-Compile.is) c.compile.ensures

pub returns-in-Batch : goal.returns-in-Batch
returns-in-Batch g c =
    subst (λ (x : Command). Runs g.F.Files c.args.files.now (course_of (as_command x)) c.batch.new.files (run_end c.batch.result)) (sym c.in-Batch.is) c.batch.ensures

pub returns-in-Untail : goal.returns-in-Untail
returns-in-Untail g c =
    subst (λ (x : Command). Runs g.F.Files c.args.files.now (course_of (as_command x)) c.untail.new.files (run_end c.untail.result)) (sym c.in-Untail.is) c.untail.ensures

pub returns-in-Expand : goal.returns-in-Expand
returns-in-Expand g c =
    subst (λ (x : Command). Runs g.F.Files c.args.files.now (course_of (as_command x)) c.expand.new.files (run_end c.expand.result)) (sym c.in-Expand.is) c.expand.ensures

pub returns-in-Inline : goal.returns-in-Inline
returns-in-Inline g c =
    subst (λ (x : Command). Runs g.F.Files c.args.files.now (course_of (as_command x)) c.inline.new.files (run_end c.inline.result)) (sym c.in-Inline.is) c.inline.ensures

pub returns-in-Unroll : goal.returns-in-Unroll
returns-in-Unroll g c =
    subst (λ (x : Command). Runs g.F.Files c.args.files.now (course_of (as_command x)) c.unroll.new.files (run_end c.unroll.result)) (sym c.in-Unroll.is) c.unroll.ensures

pub returns-in-Unrolled : goal.returns-in-Unrolled
returns-in-Unrolled g c =
    subst (λ (x : Command). Runs g.F.Files c.args.files.now (course_of (as_command x)) c.run_unrolled.new.files (run_end c.run_unrolled.result)) (sym c.in-Unrolled.is) c.run_unrolled.ensures

pub returns-in-Explain : goal.returns-in-Explain
returns-in-Explain g c =
    subst (λ (x : Command). Runs g.F.Files c.args.files.now (course_of (as_command x)) c.explain.new.files (run_end c.explain.result)) (sym c.in-Explain.is) c.explain.ensures

pub returns-in-Format : goal.returns-in-Format
returns-in-Format g c =
    subst (λ (x : Command). Runs g.F.Files c.args.files.now (course_of (as_command x)) c.format.new.files (run_end c.format.result)) (sym c.in-Format.is)
    (record { text = []; follows = c.format.ensures })

pub returns-in-Check : goal.returns-in-Check
returns-in-Check g c =
    subst (λ (x : Command). Runs g.F.Files c.args.files.now (course_of (as_command x)) c.check.new.files (run_end c.check.result)) (sym c.in-Check.is)
    (record { text = []; follows = c.check.ensures })
