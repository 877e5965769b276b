use Rattle.goto_law.proofs.Theorem.{keeps_answers, only_its_answers, waits_for_turns}
use Rattle.goto_law.proofs.lowering.lowering_keeps_answers.Goals as goal

pub returns-clause-answers : goal.returns-clause-answers
returns-clause-answers c = keeps_answers (record { ask = c.entries_ask_the_select.ensures.asked; typed = c.entries_ask_the_select.ensures.typed; slots = c.entries_read_as_the_select.ensures.slots })

pub returns-clause-only : goal.returns-clause-only
returns-clause-only c = only_its_answers (record { ask = c.entries_ask_the_select.ensures.asked; typed = c.entries_ask_the_select.ensures.typed; slots = c.entries_read_as_the_select.ensures.slots })

pub returns-clause-waits : goal.returns-clause-waits
returns-clause-waits c = waits_for_turns (record { ask = c.entries_ask_the_select.ensures.asked; typed = c.entries_ask_the_select.ensures.typed; slots = c.entries_read_as_the_select.ensures.slots })
