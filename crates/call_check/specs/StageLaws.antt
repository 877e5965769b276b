-- The relations of the stages, and that they give the bounds in each frame of a setting: the
-- proofs, which the laws of the stages cite.
use Rattle.std.proofs.Common.{◌≡◌, List, length, subst, sym}
use Rattle.away_trees.specs.declared.statements.Function.{Function}
use Rattle.away_types.specs.declared.slots.Slot.{Slot}
use Rattle.away_values.specs.declared.values.Value.{Value}
use Rattle.block_forms.specs.declared.forms.Goto.{Goto}
use Rattle.block_forms.specs.declared.forms.Ssa.{Ssa}
use Rattle.block_forms.specs.Frames.{Setting, IsFrameOf}
use Rattle.block_forms.specs.Machines.{Bounds}
use Rattle.block_forms.specs.Runs.{Frame, ssa_runs}
use Rattle.call_forms.specs.declared.forms.Anf.{Anf}
use Rattle.call_forms.specs.declared.forms.Tail.{Tail}
use Rattle.call_forms.specs.Called.{Called}
use Rattle.call_forms.specs.Columned.{Columned}
use Rattle.call_forms.specs.Merged.{Merged}
use Rattle.call_forms.specs.NormalRuns.{anf_runs}
use Rattle.call_forms.specs.TailRuns.{tail_runs}
use Rattle.call_law.proofs.InSettings.{called_bounds, merged_bounds}

-- the setting of a function with these slots, and its goto form
abbrev pub setting_of : Function → List Slot → Goto → Setting
setting_of f slots goto = record { slots = length slots; params = length f.params; goto = goto }

pub call_stage_bounds : (f : Function) (slots : List Slot) (goto : Goto) (ssa : Ssa) (anf : Anf) → Called goto ssa anf → (frame : Frame)
    → IsFrameOf frame (setting_of f slots goto) → (args : List Value) → Bounds (ssa_runs frame ssa args) (anf_runs frame anf args)
call_stage_bounds f slots goto ssa anf called = called_bounds (setting_of f slots goto) ssa anf called

-- the tail form is that of this normal form, with labels and places that fit
pub record Merging (slots : List Slot) (goto : Goto) (ssa : Ssa) (anf tail_anf : Anf) (tail : Tail) : Type 0 where
  pub same : anf ≡ tail_anf
  pub merged : Merged goto tail_anf tail
  pub columned : Columned slots ssa tail_anf tail

pub merge_stage_bounds : (f : Function) (slots : List Slot) (goto : Goto) (ssa : Ssa) (anf tail_anf : Anf) (tail : Tail)
    → Merging slots goto ssa anf tail_anf tail → (frame : Frame) → IsFrameOf frame (setting_of f slots goto) → (args : List Value)
    → Bounds (anf_runs frame anf args) (tail_runs frame tail_anf tail args)
merge_stage_bounds f slots goto ssa anf tail_anf tail merging frame of args =
    subst (λ anf. Bounds (anf_runs frame anf args) (tail_runs frame tail_anf tail args)) (sym merging.same)
    (merged_bounds (setting_of f slots goto) slots ssa tail_anf tail merging.merged merging.columned frame of args)
