-- What the code asks types by, to the definitions.
use Rattle.away_typing.specs.TypingLists.{places}
use Rattle.away_types.specs.declared.statement_types.Asking.{Asking as Here}
use Rattle.away_types.specs.StatementTypes.{Asked}

abbrev pub asked_by : Here → Asked
asked_by a = record { places = places a.places; result = a.result }
