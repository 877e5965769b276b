use Rattle.std.proofs.Common.{refl}
use Rattle.std.proofs.lemmas.Result.{err_from_is_err_and}
use Rattle.away_grammar.specs.declared.grammar.Mark.TheVariants as m
use Rattle.sql_text.proofs.Steps.{finished, eaten, left, read_on, read_no}
use Rattle.plsql_parse.proofs.loop_kinds.step_of.Goals as goal

pub returns-in_err-value_of-clause-found : goal.returns-in_err-value_of-clause-found
returns-in_err-value_of-clause-found c =
    let p = err_from_is_err_and c.from_residual.result c.from_residual.ensures.1 in
    rw (p.1, p.2) (eaten m.By c.if-eat.ensures.yes (read_no c.in_err-value_of.ensures.found))

pub returns-in_ok-value_of-clause-found : goal.returns-in_ok-value_of-clause-found
returns-in_ok-value_of-clause-found c = eaten m.By c.if-eat.ensures.yes (read_on c.in_ok-value_of.ensures.found (finished refl))

pub returns-else-eat-clause-found : goal.returns-else-eat-clause-found
returns-else-eat-clause-found c = left m.By c.if-eat.ensures.no (finished refl)
