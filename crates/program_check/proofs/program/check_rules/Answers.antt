use Rattle.program_check.specs.Refusing.{Breaks}
use Rattle.program_check.proofs.FirstOnes.{nowhere_all, nowhere_more}
use Rattle.program_check.proofs.Verdicts.{breaks_first, breaks_none, limits_at}
use Rattle.program_check.proofs.program.check_rules.Goals as goal

pub broken_rule-requires : goal.broken_rule-requires
broken_rule-requires c = limits_at c.args.fs.now c.loop-k.k c.index-fs-k.result c.loop-k-test.true c.index-fs-k.is c.requires

pub loop-k-preserved : goal.loop-k-preserved
loop-k-preserved c =
    nowhere_more (Breaks c.args.fs.now c.args.s.now.schema) c.loop-k.k c.loop-k.invariant
    (breaks_none c.args.fs.now c.args.s.now.schema c.loop-k.k c.index-fs-k.result c.loop-k-test.true c.index-fs-k.is c.in_ok-broken.broken c.in_default.is c.in_ok-broken.ensures)

pub returns-in-Some-clause-err : goal.returns-in-Some-clause-err
returns-in-Some-clause-err c =
    breaks_first c.args.fs.now c.args.s.now.schema c.loop-k.k c.index-fs-k.result c.loop-k-test.true c.index-fs-k.is c.in_ok-broken.broken c.in-Some.rule c.in_ok-narrow.field-0 c.in-Some.is c.in_ok-narrow.ensures c.in_ok-broken.ensures c.loop-k.invariant

pub returns-clause-ok : goal.returns-clause-ok
returns-clause-ok c = nowhere_all (Breaks c.args.fs.now c.args.s.now.schema) c.loop-k.k _ c.loop-k-test.false c.loop-k.invariant
