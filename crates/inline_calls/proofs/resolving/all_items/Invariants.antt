use Rattle.std.proofs.Common.{◌≡◌, drop}
use Rattle.inline_calls.specs.Resolving.{all_items}
use Rattle.inline_calls.proofs.resolving.all_items.Given as goal

abbrev pub invariant-loop-es : goal.invariant-loop-es
invariant-loop-es l = all_items l.all (drop l.es-index l.calls) ≡ all_items l.list l.calls
