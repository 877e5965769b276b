use Rattle.std.proofs.Common.{◌≡◌, ◌++◌, drop, map}
use Rattle.call_expand.specs.Judging.{asked, asks_types}
use Rattle.call_expand.proofs.judging.asked_types.Given as goal

abbrev pub invariant-loop-a : goal.invariant-loop-a
invariant-loop-a l = l.all ++ map (asked l.answer) (asks_types l.ps (drop l.a-index l.args)) ≡ map (asked l.answer) (asks_types l.params l.args)
