use Rattle.std.proofs.Common.{◌≡◌, length, sym, ap, ◌∙◌}
use Rattle.std.specs.List.{range_with_len}
use Rattle.block_forms.specs.Lowered.{parts_in}
use Rattle.goto_check.specs.Asking.{setting_in}
use Rattle.goto_check.specs.Runs.{run_of}
use Rattle.goto_check.specs.AnswerRuns.{blocks_in}
use Rattle.goto_check.proofs.JoinedRuns.{all_below}
use Rattle.goto_check.proofs.Questions.{which_answer}
use Rattle.goto_check.proofs.once.is_in_order.Goals as goal

pub returns : goal.returns
returns c =
    let ps = parts_in (setting_in c.args.a.now) c.args.f.now in
    let blocks = c.args.a.now.goto.now.blocks in
    let is : c.asked.result ≡ run_of (blocks_in ps) = c.asked.ensures ∙ ap run_of (which_answer blocks ps) in
    let many = ap (λ n. run_of (range_with_len 0 n)) c.len.ensures in
    let up = c.is_up_to.ensures in
    (λ t. all_below (blocks_in ps) (length blocks) (sym is ∙ (up.0 t ∙ many)), λ e. up.1 (is ∙ (ap run_of e ∙ sym many)))
