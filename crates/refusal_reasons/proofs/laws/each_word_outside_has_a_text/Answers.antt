use Rattle.refusal_reasons.proofs.WordsOutside.{has_its_entry}
use Rattle.refusal_reasons.proofs.laws.each_word_outside_has_a_text.Goals as goal

pub returns : goal.returns
returns c = has_its_entry
