use Rattle.refusal_reasons.proofs.Lines.{limit_line, query_line, refusal_line, rule_line, word_line}
use Rattle.refusal_reasons.proofs.laws.each_reason_is_one_line.Goals as goal

pub returns : goal.returns
returns c = record { of_rules = rule_line; of_limits = limit_line; of_words = word_line; of_refusals = refusal_line; of_queries = query_line }
