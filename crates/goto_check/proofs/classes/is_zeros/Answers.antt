use Rattle.std.proofs.Common.{◌∙◌}
use Rattle.goto_check.proofs.ClassTexts.{zeros_are}
use Rattle.goto_check.proofs.classes.is_zeros.Goals as goal

pub returns : goal.returns
returns c = c.eq.ensures ∙ zeros_are c.args.text.now c.utf8.text
