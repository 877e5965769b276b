use Rattle.cte_prints.proofs.PrintedTexts.{derived_text_reads}
use Rattle.cte_prints.proofs.nesting.derived_texts_read.Goals as goal

pub returns : goal.returns
returns c = derived_text_reads
