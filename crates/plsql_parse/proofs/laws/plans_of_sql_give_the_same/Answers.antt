use Rattle.sql_text.specs.Descent.{plan}
use Rattle.plsql_parse.proofs.Lifted.{lifted_runs, lowered_runs}
use Rattle.plsql_parse.proofs.laws.plans_of_sql_give_the_same.Goals as goal

pub returns : goal.returns
returns c = λ n ts o. (λ d. lifted_runs d, λ d. lowered_runs (plan n) d)
