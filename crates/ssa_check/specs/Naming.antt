-- What naming promises of runs: a named SSA form runs in lockstep with its goto form.
use Rattle.std.specs.Prelude.{◌≡◌, ℕ, List, length}
use Rattle.away_values.specs.declared.values.Value.{Value}
use Rattle.away_trees.specs.declared.statements.Function.{Function}
use Rattle.away_types.specs.declared.slots.Slot.{Slot}
use Rattle.block_forms.specs.declared.forms.Goto.{Goto}
use Rattle.block_forms.specs.declared.forms.Ssa.{Ssa}
use Rattle.block_forms.specs.Frames.{Setting, IsFrameOf}
use Rattle.block_forms.specs.Machines.{Bounds}
use Rattle.block_forms.specs.Named.{Named}
use Rattle.block_forms.specs.Runs.{Frame, goto_runs, ssa_runs}

-- the setting of a function with these slots, and its goto form
abbrev pub setting_of : Function → List Slot → Goto → Setting
setting_of f slots g = record { slots = length slots; params = length f.params; goto = g }

-- Named at the setting's numbers
abbrev pub NamedIn : Setting → Ssa → Type 0
NamedIn setting z = Named setting.slots setting.params setting.goto z

-- k visits come to one answer and one count of heads in both forms
abbrev pub Lockstep : Frame → Ssa → Type 0
Lockstep frame z = (args : List Value) → length args ≡ frame.params → (k : ℕ) → goto_runs frame frame.goto args k ≡ ssa_runs frame z args k

abbrev pub NamedRunsInLockstep : Type 0
NamedRunsInLockstep = (frame : Frame) (z : Ssa) → Named frame.slots frame.params frame.goto z → Lockstep frame z

-- in each frame of the setting the SSA form bounds the goto form
abbrev pub BoundsIn : Setting → Ssa → Type 0
BoundsIn setting z =
    (frame : Frame) → IsFrameOf frame setting → (args : List Value) → length args ≡ frame.params
    → Bounds (goto_runs frame setting.goto args) (ssa_runs frame z args)
