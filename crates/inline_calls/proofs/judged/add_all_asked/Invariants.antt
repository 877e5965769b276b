use Rattle.std.proofs.Common.{◌≡◌, ◌++◌, drop}
use Rattle.inline_calls.specs.Judged.{asked_items}
use Rattle.inline_calls.proofs.judged.add_all_asked.Given as goal

abbrev pub invariant-loop-es : goal.invariant-loop-es
invariant-loop-es l = l.list ++ asked_items l.types (drop l.es-index l.calls) ≡ l.initial.list ++ asked_items l.types l.calls
