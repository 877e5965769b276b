use Rattle.std.proofs.Common.{◌≡◌, take}
use Rattle.broken_names.specs.StatementCulprits.{with_decls}
use Rattle.broken_names.proofs.variables.with_decls.Given as goal

abbrev pub invariant-loop-d : goal.invariant-loop-d
invariant-loop-d l = l.all ≡ with_decls l.variables (take l.d-index l.decls)
