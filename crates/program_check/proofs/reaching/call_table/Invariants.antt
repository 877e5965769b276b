use Rattle.std.proofs.Common.{◌≡◌, ◌++◌, drop, map}
use Rattle.program_check.specs.Reaching.{call_row}
use Rattle.program_check.proofs.reaching.call_table.Given as goal

abbrev pub invariant-loop-f : goal.invariant-loop-f
invariant-loop-f l = l.table ++ map (call_row l.fs) (drop l.f-index l.fs) ≡ map (call_row l.fs) l.fs
