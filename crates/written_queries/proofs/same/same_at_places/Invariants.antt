use Rattle.std.proofs.Common.{◌≡◌}
use Rattle.block_forms.proofs.Pairs.{EachPairBelow}
use Rattle.written_queries.proofs.same.same_at_places.Given as goal

abbrev pub invariant-loop-i : goal.invariant-loop-i
invariant-loop-i l = EachPairBelow (λ b x y. x ≡ y) l.left l.right l.i
