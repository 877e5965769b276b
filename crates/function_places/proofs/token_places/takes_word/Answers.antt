use Rattle.function_places.proofs.NamePlaces.{word_taken}
use Rattle.function_places.proofs.token_places.takes_word.Goals as goal

pub returns : goal.returns
returns c = word_taken _ _ _ _ _ c.is_ok.ensures.value c.expect_word.ensures.found
