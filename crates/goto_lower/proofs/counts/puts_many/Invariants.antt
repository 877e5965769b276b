use Rattle.std.proofs.Common.{◌≡◌, ◌+◌, drop}
use Rattle.goto_lower.specs.IntoBlocks.{puts_many}
use Rattle.goto_lower.proofs.counts.puts_many.Given as goal

abbrev pub invariant-loop-i : goal.invariant-loop-i
invariant-loop-i l = l.many + puts_many l.setting.slots.now (drop l.i l.targets) ≡ puts_many l.setting.slots.now l.targets
