use Rattle.std.proofs.Common.{refl, sym, ◌∙◌}
use Rattle.cte_reads.specs.References.{no_ref}
use Rattle.cte_reads.proofs.Lookups.{is_here, is_further, no_value, no_key}
use Rattle.cte_reads.proofs.scope.lookup.Goals as goal

pub loop-i-init : goal.loop-i-init
loop-i-init c = refl

pub returns-then-i-refs : goal.returns-then-i-refs
returns-then-i-refs c = sym (c.loop-i.invariant ∙ no_value c.args.keys.now c.args.refs.now c.args.key c.loop-i.i c.loop-i-test.true c.if-i-refs.true)

pub returns-then-keys-i : goal.returns-then-keys-i
returns-then-keys-i c =
    sym
    (c.loop-i.invariant
    ∙ is_here c.args.keys.now c.args.refs.now c.args.key c.loop-i.i (record { from = 0; item = 0; column = 0 }) c.loop-i-test.true c.if-i-refs.false c.if-keys-i.true)

pub loop-i-preserved : goal.loop-i-preserved
loop-i-preserved c =
    c.loop-i.invariant
    ∙ is_further c.args.keys.now c.args.refs.now c.args.key c.loop-i.i no_ref c.loop-i-test.true c.if-i-refs.false c.if-keys-i.false

pub returns : goal.returns
returns c = sym (c.loop-i.invariant ∙ no_key c.args.keys.now c.args.refs.now c.args.key c.loop-i.i c.loop-i-test.false)
