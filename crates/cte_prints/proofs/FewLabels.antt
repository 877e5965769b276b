-- A function within the limits has few parameters, and its query few labels.
use Rattle.std.proofs.Common.{subst, sym, ℕ, ◌<◌, ◌≤◌, ◌^◌, List, length, arith}
use Rattle.away_trees.specs.Count.{nodes, weight}
use Rattle.away_trees.specs.Limits.{KeepsLimits, most_nodes, variables}
use Rattle.away_trees.specs.declared.schemas.Schema.{Schema}
use Rattle.away_trees.specs.declared.statements.Function.{Function}
use Rattle.away_types.specs.CheckedFunctions.{IsChecked}
use Rattle.away_types.specs.declared.slots.Slot.{Slot}
use Rattle.block_forms.specs.declared.forms.Goto.{Goto}
use Rattle.block_forms.specs.declared.forms.Ssa.{Ssa}
use Rattle.block_forms.specs.Lowered.{Lowered}
use Rattle.block_forms.specs.Named.{Named}
use Rattle.call_forms.specs.declared.forms.Anf.{Anf}
use Rattle.call_forms.specs.declared.forms.Tail.{Tail}
use Rattle.call_forms.specs.Called.{Called}
use Rattle.call_forms.specs.Merged.{Merged}
use Rattle.call_law.proofs.Numbers.{at_most, below_each, differ_is}
use Rattle.goto_law.proofs.FewParts.{few_blocks}
use Rattle.goto_law.proofs.NodesKept.{few_nodes}

-- ---- parameters

of_variables : (f : Function) → variables f ≤ 64 → length f.params ≤ 64
unfolding variables
of_variables f h = omega (arith, h)

pub few_parameters : (schema : Schema) (written f : Function) (slots : List Slot) → IsChecked schema written f slots → KeepsLimits written
    → length f.params ≤ 64
few_parameters schema written f slots checked limits =
    subst (λ (f : Function). length f.params ≤ 64) (sym checked.function) (of_variables written limits.few_variables)

-- ---- nodes

pub few_of : (schema : Schema) (written f : Function) (slots : List Slot) → IsChecked schema written f slots → KeepsLimits written → nodes f ≤ most_nodes
few_of schema written f slots checked limits = few_nodes f slots (record { schema = schema; written = written; limits = limits; checked_is = checked })

-- ---- labels

weight_is : (f : Function) → nodes f ≤ most_nodes → weight f ≤ 8016
unfolding weight
weight_is f few = omega (arith, few)

pub few_labels : (schema : Schema) (written f : Function) (slots : List Slot) (g : Goto) (z : Ssa) (a : Anf) (r : Tail) (count params : ℕ)
    → IsChecked schema written f slots → KeepsLimits written → Lowered f slots g → Named count params g z → Called g z a → Merged g a r
    → length r.labels < 2 ^ 63
few_labels schema written f slots g z a r count params checked limits low named called merged =
    let labels : length r.labels ≤ length a.blocks =
    at_most (length a.blocks) r.labels (differ_is r.labels merged.labels_differ) (below_each (length a.blocks) r.labels merged.labels_are_blocks) in
    let few : nodes f ≤ most_nodes = few_of schema written f slots checked limits in
    omega (arith, labels, called.as_many_blocks, named.as_many_blocks, few_blocks f slots g low, weight_is f few)
