use Rattle.std.proofs.Common.{◌≡◌, drop}
use Rattle.std.specs.List.{list_any}
use Rattle.moved_names.specs.Finding.{in_expr}
use Rattle.inline_calls.specs.Forms.{calls_of_name}
use Rattle.inline_calls.proofs.forms.in_calls.Given as goal

abbrev pub invariant-loop-es : goal.invariant-loop-es
invariant-loop-es l = list_any (list_any (in_expr (calls_of_name l.name))) l.calls ≡ list_any (list_any (in_expr (calls_of_name l.name))) (drop l.es-index l.calls)
