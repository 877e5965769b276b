use Rattle.block_forms.proofs.Verdicts.{decided, passed}
use Rattle.ssa_check.proofs.maps.map_of_parameters.Goals as goal

pub returns : goal.returns
returns c =
    decided c.own_parameters.result (rw c.as_slice-2.ensures at c.own_parameters.ensures)
    (λ own. record { no_phi = passed c.is_empty.result c.if-not-is_empty.false (rw c.as_slice.ensures at c.is_empty.ensures); parameters = own })
    (λ m. m.parameters)
