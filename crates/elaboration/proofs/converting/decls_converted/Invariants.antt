use Rattle.std.proofs.Common.{◌≡◌, ◌++◌, drop}
use Rattle.elaboration.specs.Converting.{decls_converted}
use Rattle.elaboration.specs.ConvertingLists.{around}
use Rattle.elaboration.proofs.converting.decls_converted.Given as goal

abbrev pub invariant-loop-d : goal.invariant-loop-d
invariant-loop-d l = l.done ++ decls_converted (around l.a) (drop l.d-index l.decls) ≡ decls_converted (around l.a) l.decls
