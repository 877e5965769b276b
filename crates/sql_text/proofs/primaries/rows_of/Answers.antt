use Rattle.std.proofs.Common.{refl}
use Rattle.std.proofs.lemmas.Result.{err_from_is_err_and}
use Rattle.away_grammar.specs.declared.grammar.Mark.TheVariants as m
use Rattle.sql_text.proofs.Steps.{finished, eaten, refused}
use Rattle.sql_text.proofs.Cases.{rows_counted, rows_refused}
use Rattle.sql_text.proofs.primaries.rows_of.Goals as goal

pub returns-then-not-is_count-clause-found : goal.returns-then-not-is_count-clause-found
returns-then-not-is_count-clause-found c = rows_refused c.args.name.now _ _ (c.if-not-is_count.ensures)

pub returns-in_err-expect-clause-found : goal.returns-in_err-expect-clause-found
returns-in_err-expect-clause-found c =
    let p = err_from_is_err_and c.from_residual.result c.from_residual.ensures.1 in
    rw (p.1, p.2) (rows_counted c.args.name.now _ _ _ c.if-not-is_count.ensures (refused m.Close c.in_err-expect.ensures.found))

pub returns-clause-found : goal.returns-clause-found
returns-clause-found c = rows_counted c.args.name.now _ _ _ c.if-not-is_count.ensures (eaten m.Close c.in_ok-expect.ensures.found (finished refl))
