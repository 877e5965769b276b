use Rattle.std.proofs.Common.{◌≡◌, ◌++◌, take, map}
use Rattle.block_forms.specs.FixedList.{expression, entries}
use Rattle.block_forms.proofs.fixed_list.push_fixed_list.Given as goal

abbrev pub invariant-loop-i : goal.invariant-loop-i
invariant-loop-i l = l.list ≡ l.fn.list ++ map expression (take l.i entries)
