use Rattle.std.proofs.Common.{◌≡◌, ◌++◌, drop}
use Rattle.elaboration.specs.Converting.{items_marked}
use Rattle.elaboration.specs.ConvertingLists.{around}
use Rattle.elaboration.proofs.into.items_marked.Given as goal

abbrev pub invariant-loop-item : goal.invariant-loop-item
invariant-loop-item l =
    l.done ++ items_marked (around l.a) l.ts l.ks (drop l.item-index l.list) ≡ items_marked (around l.a) l.targets l.kinds l.list
