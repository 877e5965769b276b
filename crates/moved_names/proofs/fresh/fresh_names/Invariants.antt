use Rattle.std.proofs.Common.{◌≡◌, ◌≤◌, ◌-◌, ◌^◌, length}
use Rattle.moved_names.specs.Fresh.{free_to}
use Rattle.moved_names.proofs.fresh.fresh_names.Given as goal

abbrev pub invariant-numbers : goal.invariant-numbers
invariant-numbers l = record { are : l.all ≡ free_to l.s l.list l.k; few : length l.all ≤ l.count }

abbrev pub decreases-numbers : goal.decreases-numbers
decreases-numbers l = 2 ^ 64 - l.k
