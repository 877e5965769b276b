use Rattle.block_forms.specs.Named.{BlockRenamed}
use Rattle.block_forms.proofs.Pairs.{EachPairBelow}
use Rattle.ssa_check.proofs.check.blocks_renamed.Given as goal

abbrev pub invariant-loop-b : goal.invariant-loop-b
invariant-loop-b l = EachPairBelow (λ b x y. BlockRenamed l.names x y) l.xs l.ys l.b
