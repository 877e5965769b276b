use Rattle.anf_build.proofs.CalledForm.{is_called}
use Rattle.anf_build.proofs.UsefulForm.{all_useful}
use Rattle.anf_build.proofs.Shortness.{all_within}
use Rattle.anf_build.proofs.build.to_calls.Goals as goal

pub returns : goal.returns
returns c =
    let n = c.requires.named in
    let made = c.in_ok-normal_form.ensures in
    record {
      called = is_called n.slots n.params c.args.goto.now c.args.ssa.now c.in_ok-normal_form.field-0 n.named made;
      useful = all_useful n.slots n.params c.args.goto.now c.args.ssa.now c.in_ok-normal_form.field-0 n.named made;
      short = all_within n.slots n.params c.args.goto.now c.args.ssa.now c.in_ok-normal_form.field-0 n.named made;
    }
