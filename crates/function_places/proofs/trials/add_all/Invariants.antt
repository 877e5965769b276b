use Rattle.std.specs.List.{All}
use Rattle.sql_text.specs.CodeTerminals.{HasSpelling}
use Rattle.function_places.proofs.trials.add_all.Given as goal

abbrev pub invariant-loop-terminal : goal.invariant-loop-terminal
invariant-loop-terminal l = All HasSpelling l.list
