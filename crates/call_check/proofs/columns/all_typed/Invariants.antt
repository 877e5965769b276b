use Rattle.std.specs.Prelude.{slice_get}
use Rattle.call_forms.specs.Columned.{HasType, type_of_name}
use Rattle.block_forms.proofs.Pairs.{EachPairBelow}
use Rattle.call_check.proofs.columns.all_typed.Given as goal

abbrev pub invariant-loop-i : goal.invariant-loop-i
invariant-loop-i l = EachPairBelow (λ i p c. HasType (type_of_name l.slots l.names p) (slice_get l.columns c)) l.params l.places l.i
