-- What has its calls expanded, or its self calls as turns, answers as what it is made of, by the relations of call_meaning.
use Rattle.away_types.specs.TypedSlots.{typed_slots}
use Rattle.call_meaning.proofs.Expanded.{expanded_answers}
use Rattle.call_meaning.proofs.Renamings.{renames}
use Rattle.call_meaning.proofs.Untailed.{untailed_answers as recursion_answers}
use Rattle.call_meaning.specs.Renamed.{renaming}
use Rattle.call_answers.specs.Laws.{ExpansionsAnswer, UntailingsAnswer}
use Rattle.call_expand.specs.Parts.{parts_of, self_part}

pub expansions_answer : ExpansionsAnswer
expansions_answer s fs checked slots h T args n long =
    expanded_answers T renaming (renames T) (typed_slots slots) (parts_of s fs) checked h args n long

pub untailings_answer : UntailingsAnswer
untailings_answer s f checked slots h T args n long =
    recursion_answers T renaming (renames T) (typed_slots slots) (self_part s f) checked h args n long
