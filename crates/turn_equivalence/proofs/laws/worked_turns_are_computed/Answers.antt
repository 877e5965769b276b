use Rattle.turn_equivalence.proofs.WorkedTurns.{turns_are}
use Rattle.turn_equivalence.proofs.laws.worked_turns_are_computed.Goals as goal

pub returns : goal.returns
returns c = turns_are
