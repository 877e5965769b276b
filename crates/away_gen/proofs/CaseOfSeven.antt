-- The worked case by computation.
use Rattle.std.proofs.Common.{refl}
use Rattle.std.specs.Fmt.{digits}
use Rattle.away_gen.specs.Draws.{next, upper}
use Rattle.away_gen.specs.Worked.{DrawsOfSeven, PartsOfSeven, TextsOfSeven}

pub draws : DrawsOfSeven
unfolding next upper
draws = record { first_state = refl; second_state = refl; rows = refl; first_row = refl }

pub parts : PartsOfSeven
unfolding next upper
parts = record { rows = refl; first = refl; second = refl; statements = refl; first_statements = refl }

pub texts : TextsOfSeven
unfolding next upper digits
texts = record { table = refl; function = refl }
