use Rattle.plsql_parse.proofs.Passing.{range_ended}
use Rattle.plsql_parse.proofs.laws.a_range_ends_with_no_end.Goals as goal

pub returns : goal.returns
returns c = λ ts first after last middle x rest d e f. range_ended d e f
