use Rattle.std.proofs.Common.{◌≡◌, Some, None, subst, arith}
use Rattle.std.specs.Prelude.{slice_get, ◌++◌}
use Rattle.std.proofs.lemmas.Grind.{common_steps}
use Rattle.std.proofs.lemmas.Option.{gets}
use Rattle.std.specs.Result.{OnOk}
use Rattle.tail_rec.specs.Callers.{is_firm}
use Rattle.tail_rec.proofs.Walking.{after_no_block, after_this_block}
use Rattle.tail_rec.proofs.walk.reach_next.Goals as goal

pub returns-in-None : goal.returns-in-None
returns-in-None c =
    let none : slice_get c.args.blocks.now c.args.from.block ≡ None = grind (arith, common_steps, gets) in
    after_no_block (is_firm c.args.goto.now c.args.callers.now) c.args.blocks.now c.args.reached.now.items c.args.from none

pub returns-in-Some : goal.returns-in-Some
returns-in-Some c =
    let some : slice_get c.args.blocks.now c.args.from.block ≡ Some c.in-Some.block.now = grind (arith, common_steps, gets) in
    subst (λ l. OnOk c.reach_end.result (c.reach_end.new.reached.items ≡ c.args.reached.now.items ++ l))
    (after_this_block (is_firm c.args.goto.now c.args.callers.now) c.args.blocks.now c.args.from c.in-Some.block.now some) c.reach_end.ensures
