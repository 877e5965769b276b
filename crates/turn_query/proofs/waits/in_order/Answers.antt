use Rattle.std.proofs.Common.{ap, sym, ◌∙◌, drop}
use Rattle.away_values.specs.declared.types.Ty.TheVariants as ty
use Rattle.turn_template.specs.TurnTemplate.{next_cell}
use Rattle.turn_query.proofs.WaitRules.{order_fails, order_step, order_short}
use Rattle.turn_query.proofs.waits.in_order.Goals as goal

pub returns-in_default : goal.returns-in_default
returns-in_default c =
    let left = drop c.loop-i.done c.args.waits.now in
    sym (order_fails c.args.w.now c.args.waits.now c.args.places.now c.args.args.now c.args.w.now.columns.now c.loop-i.done c.loop-i.i c.in_ok-small.field-0 ty.Text
    c.behind_cell.result c.loop-i-test.true c.in_ok-small.ensures
    (λ more. ap (λ p. next_cell c.args.waits.now left p more) (sym c.passed-passed.ensures) ∙ c.behind_cell.ensures more) c.in_default.is)
    ∙ c.loop-i.invariant

pub loop-i-preserved : goal.loop-i-preserved
loop-i-preserved c =
    let left = drop c.loop-i.done c.args.waits.now in
    sym (order_step c.args.w.now c.args.waits.now c.args.places.now c.args.args.now c.args.w.now.columns.now c.loop-i.done c.loop-i.i c.in_ok-small.field-0 ty.Text
    c.behind_cell.result c.loop-i-test.true c.in_ok-small.ensures
    (λ more. ap (λ p. next_cell c.args.waits.now left p more) (sym c.passed-passed.ensures) ∙ c.behind_cell.ensures more) c.in-Some.n c.in-Some.is)
    ∙ c.loop-i.invariant

pub returns-then-waits-done : goal.returns-then-waits-done
returns-then-waits-done c =
    sym (order_short c.args.w.now c.args.waits.now c.args.places.now c.args.args.now c.args.w.now.columns.now c.loop-i.done c.loop-i.i c.loop-i-test.false
    c.if-waits-done.true)
    ∙ c.loop-i.invariant
