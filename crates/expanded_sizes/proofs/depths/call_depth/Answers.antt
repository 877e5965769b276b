use Rattle.std.proofs.Common.{◌≡◌, subst, IfOk}
use Rattle.expanded_sizes.proofs.WalkingRules.{call_is}
use Rattle.expanded_sizes.proofs.depths.call_depth.Goals as goal

pub returns : goal.returns
returns c =
    subst (λ x. IfOk c.blocks_depth.result (λ n. n ≡ x))
    (call_is c.args.g c.args.c c.args.tail c.index-fs-c.result c.requires.known c.requires.inside c.index-fs-c.is) c.blocks_depth.ensures
