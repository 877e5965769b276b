-- Named gives the bounds in each frame of its setting: the proof, which the law of the stage cites.
use Rattle.std.proofs.Common.{◌≡◌, List, length, sym, ap, ◌∙◌, subst, arith}
use Rattle.away_values.specs.declared.values.Value.{Value}
use Rattle.block_forms.specs.declared.forms.Goto.{Goto}
use Rattle.block_forms.specs.declared.forms.Ssa.{Ssa}
use Rattle.block_forms.specs.Frames.{Setting, IsFrameOf}
use Rattle.block_forms.specs.Machines.{Bounds}
use Rattle.block_forms.specs.Named.{Named}
use Rattle.block_forms.specs.Runs.{Frame, goto_runs, ssa_runs}
use Rattle.ssa_check.specs.Naming.{NamedIn, BoundsIn}
use Rattle.ssa_check.specs.Lockstep.{in_lockstep}

own_bounds : (frame : Frame) (z : Ssa) → Named frame.slots frame.params frame.goto z → (args : List Value) → length args ≡ frame.params
    → Bounds (goto_runs frame frame.goto args) (ssa_runs frame z args)
own_bounds frame z named args typed = record {
  answer = λ k a over e. sym (ap (λ r. r.answer) (in_lockstep frame z named args typed k)) ∙ e;
  heads = λ k. omega (arith, ap (λ r. r.heads) (in_lockstep frame z named args typed k));
}

pub naming_bounds : (setting : Setting) (z : Ssa) → NamedIn setting z → BoundsIn setting z
naming_bounds setting z named frame f args typed =
    let at_slots = subst (λ n. Named n setting.params setting.goto z) (sym f.slots) named in
    let at_params = subst (λ n. Named frame.slots n setting.goto z) (sym f.params) at_slots in
    let at_goto = subst (λ g. Named frame.slots frame.params g z) (sym f.goto) at_params in
    subst (λ g. Bounds (goto_runs frame g args) (ssa_runs frame z args)) f.goto (own_bounds frame z at_goto args typed)

-- the same, where the run is that of a form that is the setting's
pub stage_bounds : (setting : Setting) (g : Goto) (z : Ssa) → g ≡ setting.goto → NamedIn setting z → (frame : Frame) → IsFrameOf frame setting
    → (args : List Value) → length args ≡ frame.params → Bounds (goto_runs frame g args) (ssa_runs frame z args)
stage_bounds setting g z same named frame f args typed =
    subst (λ g. Bounds (goto_runs frame g args) (ssa_runs frame z args)) (sym same) (naming_bounds setting z named frame f args typed)
