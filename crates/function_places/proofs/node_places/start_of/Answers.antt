use Rattle.std.proofs.Common.{arith, refl}
use Rattle.function_places.proofs.Starts.{starts}
use Rattle.function_places.proofs.node_places.start_of.Goals as goal

pub returns : goal.returns
returns c = starts c.args.list.now c.args.left _ _ c.if-left-eq0.false (omega (arith, c.if-left-list.false)) refl
