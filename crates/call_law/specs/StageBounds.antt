-- What the relations promise in each frame of one setting, as the stages between forms ask for it.
use Rattle.std.specs.Prelude.{List}
use Rattle.away_types.specs.declared.slots.Slot.{Slot}
use Rattle.away_values.specs.declared.values.Value.{Value}
use Rattle.block_forms.specs.declared.forms.Ssa.{Ssa}
use Rattle.block_forms.specs.Frames.{Setting, IsFrameOf}
use Rattle.block_forms.specs.Machines.{Bounds}
use Rattle.block_forms.specs.Runs.{Frame, ssa_runs}
use Rattle.call_forms.specs.declared.forms.Anf.{Anf}
use Rattle.call_forms.specs.declared.forms.Tail.{Tail}
use Rattle.call_forms.specs.Called.{Called}
use Rattle.call_forms.specs.Columned.{Columned}
use Rattle.call_forms.specs.Merged.{Merged}
use Rattle.call_forms.specs.NormalRuns.{anf_runs}
use Rattle.call_forms.specs.TailRuns.{tail_runs}

-- in each frame of the setting the normal form bounds the SSA form
abbrev pub CalledBound : Type 0
CalledBound =
    (setting : Setting) (ssa : Ssa) (anf : Anf) → Called setting.goto ssa anf → (frame : Frame) → IsFrameOf frame setting → (args : List Value)
    → Bounds (ssa_runs frame ssa args) (anf_runs frame anf args)

-- in each frame of the setting the tail form bounds the normal form
abbrev pub MergedBound : Type 0
MergedBound =
    (setting : Setting) (slots : List Slot) (ssa : Ssa) (anf : Anf) (tail : Tail) → Merged setting.goto anf tail → Columned slots ssa anf tail
    → (frame : Frame) → IsFrameOf frame setting → (args : List Value) → Bounds (anf_runs frame anf args) (tail_runs frame anf tail args)
