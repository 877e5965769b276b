use Rattle.std.proofs.Common.{◌∙◌, ap, slice_index_or}
use Rattle.plsql_run.specs.Settings.{meant}
use Rattle.plsql_run.proofs.Targets.{target_put}
use Rattle.plsql_run.proofs.into.put_all.Goals as goal

pub loop-i-preserved : goal.loop-i-preserved
loop-i-preserved c = λ n.
    target_put (meant c.args.setting.now) c.args.targets.now c.args.row.now c.loop-i.i (slice_index_or c.args.targets.now c.loop-i.i c.index-targets-i.result) (ap (slice_index_or c.args.targets.now c.loop-i.i) c.index-targets-i.is) c.loop-i-test.true
    c.loop-i.env c.put_in.new.env c.in_ok-v.v c.in_ok-v.ensures.value c.in_ok-put_in.ensures n
    ∙ c.loop-i.invariant n
