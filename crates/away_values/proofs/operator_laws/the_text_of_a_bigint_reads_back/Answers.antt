use Rattle.away_values.proofs.SpellingLaws.{reads_back}
use Rattle.away_values.proofs.operator_laws.the_text_of_a_bigint_reads_back.Goals as goal

pub returns : goal.returns
returns c = reads_back
