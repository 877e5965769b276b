use Rattle.program_check.specs.Firsts.{Nowhere}
use Rattle.program_check.specs.Refusing.{Breaks}
use Rattle.program_check.proofs.program.check_rules.Given as goal

abbrev pub invariant-loop-k : goal.invariant-loop-k
invariant-loop-k l = Nowhere (Breaks l.fs l.s.schema) l.k
