use Rattle.std.proofs.Common.{◌≡◌, drop}
use Rattle.wider_recursion.specs.TakenRows.{any_takes}
use Rattle.wider_recursion.proofs.rows.+rows.Given as goal

abbrev pub invariant-any_takes-loop-f : goal.invariant-any_takes-loop-f
invariant-any_takes-loop-f l = any_takes l.name l.from ≡ any_takes l.name (drop l.f-index l.from)
