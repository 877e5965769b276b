use Rattle.std.proofs.Common.{◌≡◌, ◌++◌, drop}
use Rattle.away_trees.specs.declared.queries.Select.{out-Select}
use Rattle.inline_calls.proofs.forms.with_list.Given as goal

abbrev pub invariant-loop-item : goal.invariant-loop-item
invariant-loop-item l = l.from ++ drop l.item-index (out-Select l.x).from ≡ (out-Select l.x).from

abbrev pub invariant-loop-key : goal.invariant-loop-key
invariant-loop-key l = l.order ++ drop l.key-index (out-Select l.x).order ≡ (out-Select l.x).order
