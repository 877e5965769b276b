use Rattle.ssa_build.specs.JoinPlaces.{joins_of, names_of}
use Rattle.ssa_build.proofs.Sweep.{Sweeping}
use Rattle.ssa_build.proofs.Visited.{first}
use Rattle.ssa_build.proofs.joins.sweep.Given as goal

abbrev pub invariant-loop-at : goal.invariant-loop-at
invariant-loop-at l = Sweeping (names_of l.joins) (joins_of l.joins) l.initial.into l.into l.merges l.count (first l.at)
