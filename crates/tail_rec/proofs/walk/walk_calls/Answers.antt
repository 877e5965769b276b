use Rattle.std.proofs.Common.{◌≡◌, Some, None, ap, ◌∙◌, arith}
use Rattle.std.specs.Prelude.{slice_get}
use Rattle.std.proofs.lemmas.Grind.{common_steps}
use Rattle.std.proofs.lemmas.Option.{gets}
use Rattle.tail_rec.specs.Callers.{is_firm}
use Rattle.tail_rec.proofs.Walking.{walk_on, walk_over}
use Rattle.tail_rec.proofs.walk.walk_calls.Goals as goal
use Rattle.tail_rec.proofs.walk.walk_calls.Goals.{then-at-len+in_ok-reach_next, else-at-len}

pub loop-at-preserved : goal.loop-at-preserved
loop-at-preserved c =
    let firm = is_firm c.args.goto.now c.args.callers.now in
    let rs = c.loop-at.reached.items in
    elim c.if-at-len.branch [
      | then-at-len+in_ok-reach_next w ↦
          let there : slice_get rs c.loop-at.at ≡ Some w.index-from.result.now = grind (arith, common_steps, gets) in
          walk_on firm c.args.blocks.now c.loop-at.at rs c.if-at-len.reached.items w.index-from.result.now c.loop-at.invariant there (ap (λ v. v.items) w.reached-is ∙ w.in_ok-reach_next.ensures)
      | else-at-len w ↦
          let none : slice_get rs c.loop-at.at ≡ None = grind (arith, common_steps, gets) in
          walk_over firm c.args.blocks.now c.loop-at.at rs c.if-at-len.reached.items c.loop-at.invariant none (ap (λ v. v.items) w.reached-is)
    ]
