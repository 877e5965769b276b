use Rattle.away_top.proofs.ExplainLaws.{ends_as_compile, explanation_of}
use Rattle.away_top.proofs.explanation_laws.explanations_tell_refusals.Goals as goal

pub returns-clause-explanations : goal.returns-clause-explanations
returns-clause-explanations c = λ name bytes output s told. explanation_of c.each_reason_is_one_line.ensures c.each_hint_stands_in_a_line.ensures.lines c.each_culprit_stands_at_a_token.ensures name s bytes output told

pub returns-clause-statuses : goal.returns-clause-statuses
returns-clause-statuses c = ends_as_compile
