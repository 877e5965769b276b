use Rattle.std.proofs.Common.{◌≡◌, ◌++◌, drop, map}
use Rattle.inline_calls.specs.Resolving.{expr_of_item, split}
use Rattle.inline_calls.proofs.resolving.split.Given as goal

abbrev pub invariant-loop-es : goal.invariant-loop-es
invariant-loop-es l = l.all ++ split (drop l.es-index l.calls) (map expr_of_item l.left) ≡ split l.calls (map expr_of_item l.list)
