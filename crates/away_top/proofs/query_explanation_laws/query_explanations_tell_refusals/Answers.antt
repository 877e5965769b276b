use Rattle.away_top.proofs.QueryExplainLaws.{query_explanation_of, refuses_as_rows}
use Rattle.away_top.proofs.query_explanation_laws.query_explanations_tell_refusals.Goals as goal

pub returns-clause-explanations : goal.returns-clause-explanations
returns-clause-explanations c = λ name bytes output s explains. query_explanation_of name bytes output s c.each_reason_is_one_line.ensures c.query_places_are_tokens.ensures explains

pub returns-clause-rows : goal.returns-clause-rows
returns-clause-rows c = refuses_as_rows
