use Rattle.plsql_parse.proofs.OneFile.{file_given, file_read}
use Rattle.plsql_parse.proofs.laws.a_file_reads_as_the_plans_give.Goals as goal

pub returns : goal.returns
returns c = λ z outer inner f l. (λ p. file_given l p, λ p. file_read l p)
