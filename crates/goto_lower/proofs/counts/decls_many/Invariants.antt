use Rattle.std.proofs.Common.{◌≡◌, ◌+◌, drop}
use Rattle.goto_lower.specs.Building.{decls_many}
use Rattle.goto_lower.proofs.counts.decls_many.Given as goal

abbrev pub invariant-loop-i : goal.invariant-loop-i
invariant-loop-i l = l.many + decls_many (drop l.i l.decls) ≡ decls_many l.decls
