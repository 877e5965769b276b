use Rattle.std.specs.Prelude.{slice_get}
use Rattle.call_forms.specs.Columned.{PlacesAt}
use Rattle.block_forms.proofs.Pairs.{EachPairBelow}
use Rattle.call_check.proofs.columns.all_places.Given as goal

abbrev pub invariant-loop-i : goal.invariant-loop-i
invariant-loop-i l = EachPairBelow (λ i b ps. PlacesAt l.slots l.names l.columns (slice_get l.blocks b) ps) l.labels l.places l.i
