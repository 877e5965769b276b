use Rattle.std.proofs.Common.{rules}
use Rattle.program_check.specs.Refusing.{Taken}
use Rattle.program_check.proofs.FirstOnes.{nowhere_all, nowhere_more}
use Rattle.program_check.proofs.TakenNames.{not_taken, taken_so}
use Rattle.program_check.proofs.names.first_taken.Goals as goal

pub loop-k-preserved : goal.loop-k-preserved
loop-k-preserved c =
    nowhere_more (Taken c.args.fs.now) c.loop-k.k c.loop-k.invariant
    (not_taken c.args.fs.now c.args.names.now c.loop-k.k c.index-names-k.result _ c.is_taken.result c.loop-k-test.true c.requires c.index-names-k.is (search rules) c.is_taken.ensures c.if-is_taken.false)

pub returns-then-is_taken : goal.returns-then-is_taken
returns-then-is_taken c = record {
  inside = c.loop-k-test.true;
  holds = taken_so c.args.fs.now c.args.names.now c.loop-k.k c.index-names-k.result _ c.is_taken.result c.loop-k-test.true c.requires c.index-names-k.is (search rules) c.is_taken.ensures c.if-is_taken.true;
  before = c.loop-k.invariant;
}

pub returns : goal.returns
returns c = nowhere_all (Taken c.args.fs.now) c.loop-k.k _ c.loop-k-test.false c.loop-k.invariant
