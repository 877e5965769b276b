use Rattle.std.proofs.Common.{◌≡◌, drop}
use Rattle.away_lex.specs.Pieces.{number, number_from}
use Rattle.away_lex.proofs.pieces.number.Given as goal

abbrev pub invariant-loop-digit : goal.invariant-loop-digit
invariant-loop-digit l = (number_from l.value (drop l.digit-index l.digits) ≡ number l.digits)
