use Rattle.std.proofs.Math.Logic.{∥∥₁_elim}
use native.Mathlib.Bridge.{le_prop}
use Rattle.away_trees.specs.Count.{nodes}
use Rattle.away_trees.specs.Limits.{most_nodes}
use Rattle.goto_law.proofs.NodesKept.{few_nodes}
use Rattle.compiling.proofs.Short.{short_blocks, short_parameters}
use Rattle.compiling.proofs.lengths.normal_forms_are_short.Goals as goal

pub returns-clause-blocks : goal.returns-clause-blocks
returns-clause-blocks c g z a low named called =
    let f = c.args.f.now in
    short_blocks f.function f.slots (∥∥₁_elim f.checked le_prop (few_nodes f.function f.slots)) g z a low named called

pub returns-clause-parameters : goal.returns-clause-parameters
returns-clause-parameters c g z a low named set called =
    let f = c.args.f.now in
    short_parameters f.function f.slots (∥∥₁_elim f.checked le_prop (few_nodes f.function f.slots)) g z a low named called c.checked_functions_own_their_slots.ensures c.names_are_few.ensures set
