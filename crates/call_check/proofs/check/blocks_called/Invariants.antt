use Rattle.call_forms.specs.Called.{BlockCalled}
use Rattle.block_forms.proofs.Pairs.{EachPairBelow}
use Rattle.call_check.proofs.check.blocks_called.Given as goal

abbrev pub invariant-loop-b : goal.invariant-loop-b
invariant-loop-b l = EachPairBelow (λ b y x. BlockCalled l.ssa l.anf b y x) l.ys l.xs l.b
