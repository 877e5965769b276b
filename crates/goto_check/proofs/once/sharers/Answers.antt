use Rattle.std.proofs.Common.{◌∙◌}
use Rattle.block_forms.specs.Lowered.{parts_in}
use Rattle.goto_check.specs.Asking.{setting_in}
use Rattle.goto_check.proofs.Questions.{sharers_answer}
use Rattle.goto_check.proofs.once.sharers.Goals as goal

pub returns : goal.returns
returns c = c.asked.ensures ∙ sharers_answer c.args.a.now.goto.now.blocks c.args.b (parts_in (setting_in c.args.a.now) c.args.f.now)
