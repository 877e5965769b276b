use Rattle.std.proofs.Common.{◌≡◌, ◌++◌, take, map, filter}
use Rattle.text_places.specs.Lines.{begins, blank_under}
use Rattle.text_places.proofs.lines.put_caret.Given as goal

abbrev pub invariant-loop-b : goal.invariant-loop-b
invariant-loop-b l =
    l.output.items
    ≡ l.initial.output.items ++ map blank_under (filter begins (take l.b-index l.before))
