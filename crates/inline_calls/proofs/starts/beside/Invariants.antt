use Rattle.std.proofs.Common.{◌≡◌, drop}
use Rattle.cte_template.specs.Places.{beside}
use Rattle.inline_calls.proofs.starts.beside.Given as goal

abbrev pub invariant-loop-i : goal.invariant-loop-i
invariant-loop-i l = beside l.keys l.names l.number ≡ beside (drop l.i l.keys) (drop l.i l.names) l.number
