use Rattle.std.proofs.Common.{◌≡◌, drop}
use Rattle.sql_meaning.specs.Aggregates.{any_item}
use Rattle.sql_eval.proofs.aggregates.item_has_aggregate.Given as goal

abbrev pub invariant-loop-item : goal.invariant-loop-item
invariant-loop-item l = any_item l.list ≡ any_item (drop l.item-index l.list)
