use Rattle.plsql_parse.proofs.Passing.{condition_ended}
use Rattle.plsql_parse.proofs.laws.a_condition_ends_with_no_end.Goals as goal

pub returns : goal.returns
returns c = λ ts x rest d. condition_ended d
