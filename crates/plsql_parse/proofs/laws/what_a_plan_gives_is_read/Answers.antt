use Rattle.plsql_parse.proofs.Sound.{sound}
use Rattle.plsql_parse.proofs.laws.what_a_plan_gives_is_read.Goals as goal

pub returns : goal.returns
returns c = λ p ts x rest d. sound d
