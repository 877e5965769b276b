use Rattle.ssa_build.specs.JoinPlaces.{joins_of, names_of}
use Rattle.ssa_build.proofs.Sweep.{Sweeping}
use Rattle.ssa_build.proofs.Visited.{last}
use Rattle.ssa_build.proofs.joins.sweep_back.Given as goal

abbrev pub invariant-loop-done : goal.invariant-loop-done
invariant-loop-done l = Sweeping (names_of l.joins) (joins_of l.joins) l.initial.into l.into l.merges l.count (last l.many l.done)
