use Rattle.std.proofs.Common.{◌≡◌, drop}
use Rattle.block_forms.specs.Laid.{after, decls_size}
use Rattle.goto_lower.proofs.sizes.decls_size.Given as goal

abbrev pub invariant-loop-i : goal.invariant-loop-i
invariant-loop-i l = after l.total (decls_size (drop l.i l.decls)) ≡ decls_size l.decls
