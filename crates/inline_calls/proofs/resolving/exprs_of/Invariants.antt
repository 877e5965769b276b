use Rattle.std.proofs.Common.{◌≡◌, ◌++◌, drop, map}
use Rattle.inline_calls.specs.Resolving.{expr_of_item}
use Rattle.inline_calls.proofs.resolving.exprs_of.Given as goal

abbrev pub invariant-loop-i : goal.invariant-loop-i
invariant-loop-i l = l.all ++ map expr_of_item (drop l.i-index l.list) ≡ map expr_of_item l.list
