use Rattle.std.proofs.Common.{◌≡◌, ◌++◌, drop}
use Rattle.away_typing.specs.TypingLists.{places}
use Rattle.call_expand.specs.Parts.{arguments_converted}
use Rattle.call_answers.proofs.standing.arguments_converted.Given as goal

abbrev pub invariant-loop-a : goal.invariant-loop-a
invariant-loop-a l = l.all ++ arguments_converted (places l.p) l.ps (drop l.a-index l.args) ≡ arguments_converted (places l.p) l.params l.args
