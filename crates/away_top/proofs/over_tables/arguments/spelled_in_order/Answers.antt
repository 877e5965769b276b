use Rattle.std.proofs.Common.{rules, string_bytes, sym, ◌<◌, ◌≤◌, subst}
use Rattle.away_top.proofs.ParameterSteps.{match_ends, match_more, match_none}
use Rattle.away_top.proofs.over_tables.arguments.spelled_in_order.Goals as goal

pub returns-in-None : goal.returns-in-None
returns-in-None c =
    sym (match_none string_bytes c.args.params.now c.args.words.now c.loop-i.i c.loop-i.values c.index-params-i.result c.index-words-i.result
    (subst (λ n. c.loop-i.i < n) (sym c.requires) c.loop-i-test.true) (search rules) c.loop-i-test.true (search rules) c.loop-i.invariant (search rules))

pub loop-i-preserved : goal.loop-i-preserved
loop-i-preserved c =
    match_more string_bytes c.args.params.now c.args.words.now c.loop-i.i c.loop-i.values c.index-params-i.result c.index-words-i.result
    (subst (λ n. c.loop-i.i < n) (sym c.requires) c.loop-i-test.true) (search rules) c.loop-i-test.true (search rules) c.loop-i.invariant
    c.in-Some.value c.push.new.self (search rules) c.in_ok-push-in-Some.ensures.ok

pub returns : goal.returns
returns c =
    sym (match_ends string_bytes c.args.params.now c.args.words.now c.loop-i.i c.loop-i.values (subst (λ n. n ≤ c.loop-i.i) (sym c.requires) c.loop-i-test.false) c.loop-i-test.false c.loop-i.invariant)
