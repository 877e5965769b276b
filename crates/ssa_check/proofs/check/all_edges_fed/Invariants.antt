use Rattle.block_forms.specs.Named.{EdgesFed}
use Rattle.block_forms.proofs.Pairs.{EachPairBelow}
use Rattle.ssa_check.proofs.check.all_edges_fed.Given as goal

abbrev pub invariant-loop-b : goal.invariant-loop-b
invariant-loop-b l = EachPairBelow (λ b x y. EdgesFed l.ys b x y) l.xs l.ys l.b
