-- A name for each slot, and in each block of a goto form one for each slot and one for the assignment, have numbers.
use Rattle.std.proofs.Common.{ℕ, ◌+◌, ◌*◌, ◌^◌, ◌<◌, ◌≤◌, List, length, arith}
use Rattle.std.proofs.lemmas.Nat.{mul-le}
use Rattle.away_trees.specs.declared.statements.Function.{Function}
use Rattle.away_trees.specs.Count.{nodes, weight}
use Rattle.away_trees.specs.Limits.{most_nodes}
use Rattle.away_types.specs.declared.slots.Slot.{Slot}
use Rattle.block_forms.specs.declared.forms.Goto.{Goto}
use Rattle.block_forms.specs.Lowered.{Lowered}
use Rattle.block_forms.specs.OwnSlots.{OwnSlots}
use Rattle.goto_law.proofs.FewParts.{few_blocks}
use Rattle.goto_law.proofs.FewSlots.{few_slots}

names_fit : (slots blocks : ℕ) → slots ≤ 2000 → blocks ≤ 8016 → slots + blocks * (slots + 1) < 2 ^ 32
names_fit slots blocks few_slots few_blocks = omega (arith, mul-le blocks (slots + 1) 8016 2001 few_blocks (omega (arith, few_slots)), few_slots)

weight_is : (f : Function) → nodes f ≤ most_nodes → weight f ≤ 8016
unfolding weight
weight_is f few = omega (arith, few)

pub few_names : (f : Function) (slots : List Slot) → OwnSlots f slots → nodes f ≤ most_nodes → (g : Goto) → Lowered f slots g
    → length slots + length g.blocks * (length slots + 1) < 2 ^ 32
few_names f slots own few g h = names_fit (length slots) (length g.blocks) (omega (arith, few_slots f slots own, few)) (omega (arith, few_blocks f slots g h, weight_is f few))
