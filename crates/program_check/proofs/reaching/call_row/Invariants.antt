use Rattle.std.proofs.Common.{◌≡◌, ◌++◌, drop, map}
use Rattle.program_check.specs.Reaching.{calls}
use Rattle.program_check.proofs.reaching.call_row.Given as goal

abbrev pub invariant-loop-g : goal.invariant-loop-g
invariant-loop-g l = l.row.items ++ map (calls l.f) (drop l.g-index l.fs) ≡ map (calls l.f) l.fs
