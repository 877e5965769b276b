use Rattle.std.proofs.Common.{map, length, ◌+◌, refl, subst, arith}
use Rattle.sql_meaning.specs.Template.{below}
use Rattle.sql_meaning.specs.Trees.{col}
use Rattle.call_forms.specs.Bodies.{goes}
use Rattle.cte_reads.specs.Puts.{exprs_put}
use Rattle.cte_reads.specs.Read.{Reads}
use Rattle.cte_check.specs.Walks.{anf_of, further_blocks}
use Rattle.cte_check.specs.declared.body.Step.TheVariants as step
use Rattle.cte_check.proofs.Walking as walking
use Rattle.cte_check.proofs.body.+walk.Goals as goal

pub advance-returns-then-is_none-clause-read : goal.advance-returns-then-is_none-clause-read
advance-returns-then-is_none-clause-read t c = λ table given.
    walking.no_place_left table c.args.g.now c.args.w (walking.not_some c.args.w.at c.if-is_none.ensures)

pub advance-returns-then-w-eq0-clause-read : goal.advance-returns-then-w-eq0-clause-read
advance-returns-then-w-eq0-clause-read t c = λ table given. walking.endless_walk table c.args.g.now c.args.w c.if-w-eq0.true

pub advance-returns-then-number-g-clause-read : goal.advance-returns-then-number-g-clause-read
advance-returns-then-number-g-clause-read t c = λ table given.
    walking.no_block table c.args.g.now c.args.w (walking.none_past _ c.args.w.block c.if-number-g.true)

pub advance-returns-clause-read : goal.advance-returns-clause-read
advance-returns-clause-read t c =
    walking.when_ok _ _ c.block.result
    (λ s read table given.
    walking.through_step table c.args.g.now c.args.w _ _ s c.if-w-eq0.false refl
    (walking.there_is _ c.args.w.block c.index-g-number.result (omega (arith, c.if-number-g.false))) (read table given))
    c.block.ensures.read

pub arm-returns-in-Ends : goal.arm-returns-in-Ends
arm-returns-in-Ends t c = λ table given.
    walking.after_arm table c.args.g.now c.args.w.now c.args.by _ c.args.at c.open_body.result c.in-Ends.at c.end_of_body.result c.requires.sound c.open_body.ensures
    (walking.arm_ends table c.args.g.now c.args.w.now c.in_ok-next.next c.args.call.now c.open_body.result c.in-Ends.at c.in_ok-at.field-0 c.in_ok-next.ensures c.in-Ends.is
    (c.in_ok-at.ensures.read table given))
    c.end_of_body.ensures

pub arm-returns-in_ok-at-in-Goes : goal.arm-returns-in_ok-at-in-Goes
arm-returns-in_ok-at-in-Goes t c = λ table given.
    let to = c.in_ok-at-in-Goes.at in
    walking.after_arm table c.args.g.now c.args.w.now c.args.by _ c.args.at c.open_body.result to c.end_of_body-in-Goes.result c.requires.sound c.open_body.ensures
    (walking.arm_goes table c.args.g.now c.args.w.now c.in_ok-next.next c.in-Goes.next c.args.call.now c.open_body.result to c.in_ok-at.field-0 c.in_ok-next.ensures c.in-Goes.is
    (c.in_ok-at.ensures.read table given) (c.in_ok-at-in-Goes.ensures table given))
    c.end_of_body-in-Goes.ensures

pub block-returns-in_ok-next-in-Some-clause-read : goal.block-returns-in_ok-next-in-Some-clause-read
block-returns-in_ok-next-in-Some-clause-read t c =
    walking.when_ok _ _ c.end-in-Some.result
    (λ s read table given.
    walking.behind_assignment table c.args.g.now c.args.w c.in_ok-next-in-Some.next c.args.x.now c.in-Some.set s c.in-Some.is c.in_ok-next-in-Some.ensures.fuel
    (c.in_ok-next-in-Some.ensures.read table given) (read table given))
    c.end-in-Some.ensures.read

pub end-returns-in-Pick-clause-read : goal.end-returns-in-Pick-clause-read
end-returns-in-Pick-clause-read t c = λ table given.
    walking.ends_so table c.args.g.now c.args.w c.args.end.now _ (step.Ends c.in_ok-pick-in-Pick.field-0) c.in-Pick.is (c.in_ok-pick-in-Pick.ensures table given)

pub end-returns-clause-read : goal.end-returns-clause-read
end-returns-clause-read t c = λ table given.
    walking.ends_so table c.args.g.now c.args.w c.args.end.now _ (step.Ends c.fail_end.result) c.in-Fail.is (c.fail_end.ensures table)

pub pick-returns-then-is_none : goal.pick-returns-then-is_none
pick-returns-then-is_none t c = λ table given.
    walking.no_test table c.args.g.now c.args.w.now c.args.t.now _ _ c.in_ok-at.at (walking.not_some c.in_ok-at.at c.if-is_none.ensures) (c.in_ok-at.ensures table given.entries)

pub pick-returns : goal.pick-returns
pick-returns t c = λ table given.
    let w = c.args.w.now in
    let called = goes (anf_of c.args.g.now) c.args.g.now.tail.now (further_blocks c.args.g.now w) in
    let row = subst (λ columns. Reads (exprs_put (map (col 0 (w.items + 1)) (below (length columns + 4)))) c.args.g.now.events.now c.to_list-at.result c.all_of-at.result)
    c.as_slice-columns.ensures c.all_of-at.ensures in
    walking.after_picking table c.args.g.now w c.args.t.now (called c.args.yes.now) (called c.args.no.now) c.in_ok-at.at c.open_lateral-at.result c.in_ok-at-2.at c.in_ok-at-3.at c.close_lateral.result c.to_list-at.result
    c.all_of-at.result c.close.result (c.in_ok-at.ensures table given.entries) c.open_lateral-at.ensures (c.in_ok-at-2.ensures table given) (c.in_ok-at-3.ensures table given)
    c.close_lateral.ensures c.to_list-at.ensures row c.close.ensures
