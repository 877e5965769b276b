use Rattle.block_forms.proofs.Verdicts.{decided, passed}
use Rattle.ssa_check.proofs.maps.map_of_slots.Goals as goal

pub returns : goal.returns
returns c =
    decided c.own_slots.result (rw c.as_slice-5.ensures at c.own_slots.ensures)
    (λ own. record {
      slots_differ = passed c.keys_differ.result c.if-not-keys_differ.false (rw c.as_slice-4.ensures at c.keys_differ.ensures);
      own_slots = own;
      phi_slots_differ = passed c.phi_slots_differ.result c.if-not-phi_slots_differ.false (rw c.as_slice.ensures at c.phi_slots_differ.ensures);
      phis_mapped = passed c.phis_mapped.result c.if-not-phis_mapped.false (rw (c.as_slice-2.ensures, c.as_slice-3.ensures) at c.phis_mapped.ensures);
    })
    (λ m. m.own_slots)
