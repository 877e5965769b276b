use Rattle.std.proofs.Common.{refl}
use Rattle.std.proofs.lemmas.Result.{err_from_is_err_and}
use Rattle.away_grammar.specs.declared.grammar.Mark.TheVariants as m
use Rattle.away_trees.specs.declared.statements.Stmt.TheVariants as s
use Rattle.sql_text.specs.Plans.{no_memory}
use Rattle.sql_text.proofs.Steps.{finished, eaten, read_on, read_no, refused}
use Rattle.plsql_parse.specs.Bodies.{left_plan}
use Rattle.plsql_parse.proofs.BodySteps.{maybe_named}
use Rattle.plsql_parse.proofs.simple_statements.continue_statement.Goals as goal

pub returns-in_err-label-clause-found : goal.returns-in_err-label-clause-found
returns-in_err-label-clause-found c =
    let p = err_from_is_err_and c.from_residual.result c.from_residual.ensures.1 in
    rw (p.1, p.2) (no_memory)

pub returns-in_err-condition-clause-found : goal.returns-in_err-condition-clause-found
returns-in_err-condition-clause-found c =
    let p = err_from_is_err_and c.from_residual-in_err-condition.result c.from_residual-in_err-condition.ensures.1 in
    rw (p.1, p.2) (maybe_named (λ label. left_plan (s.Continue label)) _ c.in_ok-label.ensures.found (read_no c.in_err-condition.ensures.found))

pub returns-in_err-expect-clause-found : goal.returns-in_err-expect-clause-found
returns-in_err-expect-clause-found c =
    let p = err_from_is_err_and c.from_residual-in_err-expect.result c.from_residual-in_err-expect.ensures.1 in
    rw (p.1, p.2) (maybe_named (λ label. left_plan (s.Continue label)) _ c.in_ok-label.ensures.found (read_on c.in_ok-condition.ensures.found (refused m.Semicolon c.in_err-expect.ensures.found)))

pub returns-clause-found : goal.returns-clause-found
returns-clause-found c = rw c.unboxed.ensures (maybe_named (λ label. left_plan (s.Continue label)) _ c.in_ok-label.ensures.found (read_on c.in_ok-condition.ensures.found (eaten m.Semicolon c.in_ok-expect.ensures.found (finished refl))))
