use Rattle.broken_names.proofs.NamesTaken.{name_taken}
use Rattle.broken_names.proofs.name_tokens.takes_name.Goals as goal

pub returns : goal.returns
returns c = name_taken _ _ _ _ _ _ c.is_ok.ensures.value c.expect_word.ensures.found c.text.ensures.within c.text.ensures.value
