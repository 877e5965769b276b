use Rattle.std.proofs.Common.{ap, sym, ◌∙◌}
use Rattle.plsql_meaning.specs.Statements.{class_of}
use Rattle.call_answers.proofs.WholeRules.{falls_off_by}
use Rattle.call_answers.proofs.ends.is_no_return.Goals as goal

pub returns-in-State : goal.returns-in-State
returns-in-State c = λ q. ap (λ r. class_of r) c.in-State.is ∙ falls_off_by c.in-State.code c.text.result.now c.text.ensures.value (sym c.eq.ensures ∙ q)
