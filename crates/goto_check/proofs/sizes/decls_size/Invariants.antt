use Rattle.std.proofs.Common.{◌≡◌, drop}
use Rattle.block_forms.specs.Laid.{after, decls_size}
use Rattle.goto_check.specs.Room.{here}
use Rattle.goto_check.proofs.sizes.decls_size.Given as goal

abbrev pub invariant-loop-i : goal.invariant-loop-i
invariant-loop-i l = after (here l.total) (decls_size (drop l.i l.list)) ≡ decls_size l.list
