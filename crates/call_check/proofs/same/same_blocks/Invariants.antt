use Rattle.std.proofs.Common.{◌≡◌}
use Rattle.block_forms.proofs.Pairs.{EachPairBelow}
use Rattle.call_check.proofs.same.same_blocks.Given as goal

abbrev pub invariant-loop-b : goal.invariant-loop-b
invariant-loop-b l = EachPairBelow (λ b x y. x ≡ y) l.xs l.ys l.b
