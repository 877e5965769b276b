use Rattle.function_facts.proofs.SetSlots.{read_in_sight, answers_alike}
use Rattle.function_facts.proofs.reads.checked_functions_read_set_slots.Goals as goal

pub returns-clause-reads : goal.returns-clause-reads
returns-clause-reads c = read_in_sight

pub returns-clause-answers : goal.returns-clause-answers
returns-clause-answers c = answers_alike
