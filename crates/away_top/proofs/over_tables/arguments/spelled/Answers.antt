use Rattle.std.proofs.Common.{rules, string_bytes, sym}
use Rattle.away_top.proofs.ArgumentSteps.{values_end, values_more, values_none}
use Rattle.away_top.proofs.over_tables.arguments.spelled.Goals as goal

pub returns-in-None : goal.returns-in-None
returns-in-None c =
    sym (values_none string_bytes c.args.params.now c.args.words.now c.loop-i.i c.loop-i.values c.index-words-i.result c.loop-i-test.true (search rules) c.loop-i.invariant (search rules))

pub loop-i-preserved : goal.loop-i-preserved
loop-i-preserved c =
    values_more string_bytes c.args.params.now c.args.words.now c.loop-i.i c.loop-i.values c.index-words-i.result c.loop-i-test.true (search rules) c.loop-i.invariant
    c.in-Some.value c.push.new.self (search rules) c.in_ok-push-in-Some.ensures.ok

pub returns : goal.returns
returns c = sym (values_end string_bytes c.args.params.now c.args.words.now c.loop-i.i c.loop-i.values c.loop-i-test.false c.loop-i.invariant)
