use Rattle.std.proofs.Common.{◌≡◌, IfOk, subst, arith}
use Rattle.turn_bodies.specs.Trees.{as_body}
use Rattle.turn_bodies.proofs.TreeSteps.{tree_at}
use Rattle.turn_bodies.proofs.bodies.+trees.Goals as goal

pub tree_of-returns-in-Some : goal.tree_of-returns-in-Some
tree_of-returns-in-Some t c =
    subst (λ whole. IfOk c.block_of.result (λ b. as_body b ≡ whole))
    (tree_at c.args.anf.now c.args.tail.now c.args.most c.args.block c.in-Some.x.now (omega (arith, c.if-most-eq0.false)) c.in-Some.ensures.value)
    c.block_of.ensures
