use Rattle.function_places.proofs.HintLines.{hints_in_line, labels_are_distinct}
use Rattle.function_places.proofs.hint_laws.each_hint_stands_in_a_line.Goals as goal

pub returns-clause-lines : goal.returns-clause-lines
returns-clause-lines c = hints_in_line

pub returns-clause-distinct : goal.returns-clause-distinct
returns-clause-distinct c = labels_are_distinct
