use Rattle.call_law.proofs.InSettings.{merged_bounds}
use Rattle.call_law.proofs.MergedRuns.{tail_bounds}
use Rattle.call_law.proofs.runs.the_tail_form_keeps_the_run.Goals as goal

pub returns : goal.returns
returns c = record {
  runs = λ frame slots z a r merged columned args. tail_bounds frame slots z a r merged columned args;
  in_settings = λ setting slots z a r merged columned frame f args. merged_bounds setting slots z a r merged columned frame f args;
}
