use Rattle.std.proofs.Common.{ap}
use Rattle.sql_text.proofs.OneTree.{one_text, one_expression}
use Rattle.sql_text.proofs.one_tree.a_text_reads_as_one_tree.Goals as goal

pub returns-clause-query : goal.returns-clause-query
returns-clause-query c = λ z q r a b. one_text a b

pub returns-clause-schema : goal.returns-clause-schema
returns-clause-schema c = λ z s t a b. ap (λ tables. record { tables = tables }) (one_text a b)

pub returns-clause-expression : goal.returns-clause-expression
returns-clause-expression c = λ list at x y e f a b. one_expression a b
