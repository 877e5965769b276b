use Rattle.std.proofs.Common.{◌≡◌, drop}
use Rattle.std.specs.List.{list_all}
use Rattle.inline_calls.specs.Judged.{has_many}
use Rattle.inline_calls.proofs.judged.are_as_many.Given as goal

abbrev pub invariant-loop-es : goal.invariant-loop-es
invariant-loop-es l = list_all (has_many l.params) l.calls ≡ list_all (has_many l.params) (drop l.es-index l.calls)
