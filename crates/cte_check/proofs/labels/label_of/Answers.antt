use Rattle.std.proofs.Common.{sym, arith}
use Rattle.cte_check.proofs.LabelPlaces.{not_placed}
use Rattle.cte_check.proofs.labels.label_of.Goals as goal

pub returns-else-block-g : goal.returns-else-block-g
returns-else-block-g c labels many each = sym (not_placed _ 0 c.args.block c.args.g.now.tail.now.labels each (omega (arith, many, c.if-block-g.false)))
