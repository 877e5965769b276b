use Rattle.goto_law.proofs.SelectEntries.{SelectLaws}
use Rattle.goto_law.proofs.Theorem.{keeps_answers, only_its_answers, waits_for_turns}
use Rattle.goto_law.proofs.lowering.forms_of_checked_functions_keep_answers.Goals as goal

pub returns : goal.returns
returns c = λ g lowered.
    let laws : SelectLaws = record { ask = c.entries_ask_the_select.ensures.asked; typed = c.entries_ask_the_select.ensures.typed; slots = c.entries_read_as_the_select.ensures.slots } in
    let own = c.checked_functions_own_their_slots.ensures in
    record {
      answers = λ tables args typed n. keeps_answers laws c.args.f.now.function c.args.f.now.slots g lowered own tables args typed n;
      only = λ tables args typed k over. only_its_answers laws c.args.f.now.function c.args.f.now.slots g lowered own tables args typed k over;
      waits = λ tables args typed n more. waits_for_turns laws c.args.f.now.function c.args.f.now.slots g lowered own tables args typed n more;
    }
