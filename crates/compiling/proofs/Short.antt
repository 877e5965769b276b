-- By the limits of a function its forms have few blocks, slots and names, and a block has no more parameters than there are names.
use Rattle.std.proofs.Common.{◌≡◌, ℕ, ◌+◌, ◌*◌, ◌^◌, ◌<◌, ◌≤◌, List, length, subst, sym, arith, ◌∙◌}
use Rattle.std.proofs.lemmas.Nat.{mul-le}
use Rattle.away_trees.specs.Count.{nodes, weight}
use Rattle.away_trees.specs.Limits.{most_nodes}
use Rattle.away_trees.specs.declared.statements.Function.{Function}
use Rattle.away_types.specs.declared.slots.Slot.{Slot}
use Rattle.block_forms.specs.declared.forms.Goto.{Goto}
use Rattle.block_forms.specs.declared.forms.Ssa.{Ssa}
use Rattle.block_forms.specs.Lowered.{Lowered}
use Rattle.block_forms.specs.Named.{Named}
use Rattle.block_forms.specs.OwnSlots.{OwnSlots}
use Rattle.block_forms.specs.Places.{Each}
use Rattle.call_forms.specs.declared.forms.Anf.{Anf}
use Rattle.call_forms.specs.Called.{Called, itself}
use Rattle.goto_law.proofs.FewParts.{few_blocks}
use Rattle.goto_law.proofs.FewSlots.{few_slots}
use Rattle.ssa_build.proofs.DistinctKeys.{few_keys}
use Rattle.ssa_build.specs.FewNames.{NamesAreFew}
use Rattle.ssa_build.specs.SetNames.{NamesAreSet}
use Rattle.tail_rec.specs.Columns.{HasFewParameters}

names_fit : (slots blocks names : ℕ) → slots ≤ 2000 → blocks ≤ 8016 → names ≤ slots + blocks * (slots + 1) → names < 2 ^ 28
names_fit slots blocks names few_slots few_blocks few = omega (arith, mul-le blocks (slots + 1) 8016 2001 few_blocks (omega (arith, few_slots)), few_slots, few)

weight_is : (f : Function) → nodes f ≤ most_nodes → weight f ≤ 8016
unfolding weight
weight_is f few = omega (arith, few)

module _ (f : Function) (slots : List Slot) (few : nodes f ≤ most_nodes) (g : Goto) (z : Ssa) (a : Anf) (lowered : Lowered f slots g) (named : Named (length slots) (length f.params) g z) (called : Called g z a) where
  blocks_few : length g.blocks ≤ 8016
  blocks_few = omega (arith, few_blocks f slots g lowered, weight_is f few)

  pub short_blocks : length a.blocks < 2 ^ 28
  short_blocks = omega (arith, called.as_many_blocks, named.as_many_blocks, blocks_few)

  pub short_parameters : OwnSlots f slots → NamesAreFew → NamesAreSet (length slots) z → Each HasFewParameters a.blocks
  short_parameters own law set b x at =
      let names = names_fit (length slots) (length g.blocks) (length z.names) (omega (arith, few_slots f slots own, few)) blocks_few (law (length slots) (length f.params) g z named set) in
      let own_parameters = called.parameters b x at in
      let most = few_keys itself x.params (length z.names) own_parameters.of_form own_parameters.distinct in
      record { few = omega (arith, most, names) }
