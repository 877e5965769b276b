use Rattle.std.proofs.Common.{ap, map, ◌∙◌}
use Rattle.sql_text.specs.CodeTerminals.{meaning_of}
use Rattle.function_places.proofs.NamePlaces.{name_starts_by}
use Rattle.function_places.proofs.token_places.start_of_name.Goals as goal

pub returns-in-Some : goal.returns-in-Some
returns-in-Some c = name_starts_by _ _ _ (ap (map meaning_of) c.as_slice.ensures ∙ c.in_ok-terminals.ensures.values) c.in-Some.ensures c.start_of.ensures
