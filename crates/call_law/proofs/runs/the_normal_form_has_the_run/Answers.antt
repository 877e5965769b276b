use Rattle.call_law.proofs.CalledRuns.{in_lockstep}
use Rattle.call_law.proofs.InSettings.{called_bounds}
use Rattle.call_law.proofs.runs.the_normal_form_has_the_run.Goals as goal

pub returns : goal.returns
returns c = record {
  lockstep = λ frame z a called args k. in_lockstep frame z a called args k;
  in_settings = λ setting z a called frame f args. called_bounds setting z a called frame f args;
}
