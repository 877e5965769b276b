use Rattle.std.proofs.Common.{List, ℕ, IfOk, subst}
use Rattle.demonstration.specs.Summary.{IsOver}
use Rattle.demonstration.proofs.Summing.{of_texts, summary_made}
use Rattle.demonstration.proofs.summary.summary_of.Goals as goal

pub over_case-requires-clause-texts : goal.over_case-requires-clause-texts
over_case-requires-clause-texts c = of_texts c.in_ok-case.case c.in_ok-trial.trial c.in_ok-trial.ensures

pub returns : goal.returns
returns c =
    let over = subst (λ args. IfOk c.over_case.result (λ summary. (text : List ℕ) × IsOver c.args.number text c.in_ok-trial.trial args summary)) c.as_slice.ensures c.over_case.ensures in
    summary_made c.args.number c.in_ok-case.case c.in_ok-trial.trial c.over_case.result c.in_ok-case.ensures.texts c.in_ok-trial.ensures over
