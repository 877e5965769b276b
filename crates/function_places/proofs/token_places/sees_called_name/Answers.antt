use Rattle.std.proofs.Common.{Some, sym, ap, ◌∙◌}
use Rattle.sql_text.specs.CodeTerminals.{meaning_of}
use Rattle.sql_text.specs.Plans.{first, tail}
use Rattle.function_places.proofs.NamePlaces.{called}
use Rattle.function_places.proofs.token_places.sees_called_name.Goals as goal

pub returns-in-Some-Name : goal.returns-in-Some-Name
returns-in-Some-Name c =
    called _ _ _ _ (ap (λ t. Some (meaning_of t)) (sym c.in-Some-Name.field-0-is) ∙ c.in-Some-Name.ensures.next ∙ ap first c.ahead-ahead.ensures)
    (c.take.ensures.rest ∙ ap tail c.ahead-ahead.ensures) c.sees.ensures.yes
