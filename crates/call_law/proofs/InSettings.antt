-- The laws of the runs in each frame of a setting.
use Rattle.std.proofs.Common.{List, sym, ap, ◌∙◌, subst, arith}
use Rattle.away_types.specs.declared.slots.Slot.{Slot}
use Rattle.away_values.specs.declared.values.Value.{Value}
use Rattle.block_forms.specs.declared.forms.Ssa.{Ssa}
use Rattle.block_forms.specs.Frames.{Setting, IsFrameOf}
use Rattle.block_forms.specs.Machines.{Bounds}
use Rattle.block_forms.specs.Runs.{Frame, ssa_runs}
use Rattle.call_forms.specs.declared.forms.Anf.{Anf}
use Rattle.call_forms.specs.declared.forms.Tail.{Tail}
use Rattle.call_forms.specs.Called.{Called}
use Rattle.call_forms.specs.Columned.{Columned}
use Rattle.call_forms.specs.Merged.{Merged}
use Rattle.call_forms.specs.NormalRuns.{anf_runs}
use Rattle.call_forms.specs.TailRuns.{tail_runs}
use Rattle.call_law.proofs.CalledRuns.{in_lockstep}
use Rattle.call_law.proofs.MergedRuns.{tail_bounds}

own_bounds : (frame : Frame) (z : Ssa) (a : Anf) → Called frame.goto z a → (args : List Value)
    → Bounds (ssa_runs frame z args) (anf_runs frame a args)
own_bounds frame z a called args = record {
  answer = λ k x over e. sym (ap (λ r. r.answer) (in_lockstep frame z a called args k)) ∙ e;
  heads = λ k. omega (arith, ap (λ r. r.heads) (in_lockstep frame z a called args k));
}

pub called_bounds : (setting : Setting) (z : Ssa) (a : Anf) → Called setting.goto z a → (frame : Frame) → IsFrameOf frame setting
    → (args : List Value) → Bounds (ssa_runs frame z args) (anf_runs frame a args)
called_bounds setting z a called frame f args = own_bounds frame z a (subst (λ g. Called g z a) (sym f.goto) called) args

pub merged_bounds : (setting : Setting) (slots : List Slot) (z : Ssa) (a : Anf) (r : Tail) → Merged setting.goto a r → Columned slots z a r
    → (frame : Frame) → IsFrameOf frame setting → (args : List Value) → Bounds (anf_runs frame a args) (tail_runs frame a r args)
merged_bounds setting slots z a r merged columned frame f args =
    tail_bounds frame slots z a r (subst (λ g. Merged g a r) (sym f.goto) merged) columned args
