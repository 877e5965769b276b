use Rattle.std.proofs.Common.{[]}
use Rattle.cte_prints.proofs.PrintedTexts.{derived_text_reads}
use Rattle.cte_prints.proofs.nesting.derivable_texts_read.Goals as goal

pub returns : goal.returns
returns c = λ d q few h. let derivable = h [] in derived_text_reads d derivable.terminals q few (derivable.writable tt) derivable.derives
