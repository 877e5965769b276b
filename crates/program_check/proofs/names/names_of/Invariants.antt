use Rattle.std.proofs.Common.{◌≡◌, ◌++◌, drop}
use Rattle.call_expand.specs.Expanding.{names_of}
use Rattle.program_check.proofs.names.names_of.Given as goal

abbrev pub invariant-loop-f : goal.invariant-loop-f
invariant-loop-f l = l.names ++ names_of (drop l.f-index l.fs) ≡ names_of l.fs
