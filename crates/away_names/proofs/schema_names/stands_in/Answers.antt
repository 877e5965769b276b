use Rattle.std.proofs.Common.{◌∙◌, ap, map}
use Rattle.std.specs.String.{string_bytes}
use Rattle.away_names.specs.Schemas.{stands_in}
use Rattle.away_names.proofs.Doubles.{any_of_bytes}
use Rattle.away_names.proofs.schema_names.stands_in.Goals as goal

pub returns : goal.returns
returns c = c.contains.ensures ∙ any_of_bytes c.text.result.now c.args.seen.now.keys ∙ ap (λ m. stands_in m (map string_bytes c.args.seen.now.keys)) c.text.ensures.value
