use Rattle.text_laws.proofs.OneList.{one_nesting}
use Rattle.text_laws.proofs.laws.a_list_has_one_nesting.Goals as goal

pub returns : goal.returns
returns c = λ tokens nesting other a b. one_nesting a b
