use Rattle.std.proofs.Common.{◌≡◌}
use Rattle.block_forms.proofs.Pairs.{EachPairBelow}
use Rattle.batch_calls.specs.CallTables.{column_type, parameter_type}
use Rattle.batch_calls.proofs.tables.have_types.Given as goal

abbrev pub invariant-loop-i : goal.invariant-loop-i
invariant-loop-i l = EachPairBelow (λ b x y. column_type x ≡ parameter_type y) l.columns l.params l.i
