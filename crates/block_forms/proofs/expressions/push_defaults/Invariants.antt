use Rattle.std.proofs.Common.{◌≡◌, ◌++◌, take, flat_map}
use Rattle.block_forms.specs.Expressions.{default_of}
use Rattle.block_forms.proofs.expressions.push_defaults.Given as goal

abbrev pub invariant-loop-i : goal.invariant-loop-i
invariant-loop-i l = l.list ≡ l.fn.list ++ flat_map default_of (take l.i l.decls)
