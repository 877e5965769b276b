use Rattle.text_laws.proofs.OneList.{one_file}
use Rattle.text_laws.proofs.laws.a_file_has_one_list_of_tokens.Goals as goal

pub returns : goal.returns
returns c = λ bytes outer outer' inner inner' bad bad' a b. one_file a b
