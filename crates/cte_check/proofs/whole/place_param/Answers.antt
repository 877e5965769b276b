use Rattle.std.proofs.Common.{refl, sym, ◌∙◌}
use Rattle.cte_reads.proofs.Lookups.{is_here, is_further, no_value, no_key}
use Rattle.cte_check.proofs.whole.place_param.Goals as goal

pub loop-i-init : goal.loop-i-init
loop-i-init c = refl

pub returns-then-i-params : goal.returns-then-i-params
returns-then-i-params c = sym (c.loop-i.invariant ∙ no_value c.args.places.now c.args.params.now c.args.column c.loop-i.i c.loop-i-test.true c.if-i-params.true)

pub returns-then-places-i : goal.returns-then-places-i
returns-then-places-i c =
    sym (c.loop-i.invariant ∙ is_here c.args.places.now c.args.params.now c.args.column c.loop-i.i 0 c.loop-i-test.true c.if-i-params.false c.if-places-i.true)

pub loop-i-preserved : goal.loop-i-preserved
loop-i-preserved c = c.loop-i.invariant ∙ is_further c.args.places.now c.args.params.now c.args.column c.loop-i.i 0 c.loop-i-test.true c.if-i-params.false c.if-places-i.false

pub returns : goal.returns
returns c = sym (c.loop-i.invariant ∙ no_key c.args.places.now c.args.params.now c.args.column c.loop-i.i c.loop-i-test.false)
