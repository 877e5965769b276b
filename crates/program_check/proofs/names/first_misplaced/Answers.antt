use Rattle.program_check.specs.Refusing.{Misplaced}
use Rattle.program_check.proofs.FirstOnes.{nowhere_more}
use Rattle.program_check.proofs.Verdicts.{holds_so, misplaced_at, not_so}
use Rattle.program_check.proofs.names.first_misplaced.Goals as goal

pub loop-k-preserved : goal.loop-k-preserved
loop-k-preserved c =
    nowhere_more (Misplaced c.args.fs.now) c.loop-k.k c.loop-k.invariant
    (not_so c.misplaces.result _ (misplaced_at c.args.fs.now c.args.names.now c.loop-k.k c.index-fs-k.result c.misplaces.result c.loop-k-test.true c.requires c.index-fs-k.is c.misplaces.ensures) c.if-misplaces.false)

pub returns-then-misplaces : goal.returns-then-misplaces
returns-then-misplaces c = record {
  inside = c.loop-k-test.true;
  holds = holds_so c.misplaces.result _ (misplaced_at c.args.fs.now c.args.names.now c.loop-k.k c.index-fs-k.result c.misplaces.result c.loop-k-test.true c.requires c.index-fs-k.is c.misplaces.ensures) c.if-misplaces.true;
  before = c.loop-k.invariant;
}
