use Rattle.std.proofs.Math.Logic.{∥∥₁_elim}
use native.Mathlib.Bridge.{le_prop}
use Rattle.goto_law.proofs.FewNames.{few_names}
use Rattle.goto_law.proofs.FewParts.{few_blocks}
use Rattle.goto_law.proofs.NodesKept.{few_nodes}
use Rattle.goto_law.proofs.lowered_forms.names_of_forms_are_few.Goals as goal

pub returns-clause-short : goal.returns-clause-short
returns-clause-short c g low =
    let f = c.args.f.now in
    few_names f.function f.slots c.checked_functions_own_their_slots.ensures (∥∥₁_elim f.checked le_prop (few_nodes f.function f.slots)) g low

pub returns-clause-few : goal.returns-clause-few
returns-clause-few c g low = few_blocks c.args.f.now.function c.args.f.now.slots g low
