use Rattle.ssa_build.proofs.Ranks.{Numbered}
use Rattle.ssa_build.proofs.numbers.number_roots.Given as goal

abbrev pub invariant-loop-name : goal.invariant-loop-name
invariant-loop-name l = Numbered l.slots l.into l.numbers.items l.names l.name
