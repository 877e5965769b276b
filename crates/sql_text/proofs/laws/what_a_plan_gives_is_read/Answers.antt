use Rattle.sql_text.proofs.Sound.{sound}
use Rattle.sql_text.proofs.laws.what_a_plan_gives_is_read.Goals as goal

pub returns : goal.returns
returns c = λ n ts x rest d. sound d
