use Rattle.std.proofs.lemmas.Result.{err_from_is_err_and}
use Rattle.away_grammar.specs.declared.grammar.Mark.TheVariants as m
use Rattle.sql_text.specs.TerminalKinds.{name_in}
use Rattle.sql_text.proofs.Steps.{eaten, read_on, read_no, wanted, not_wanted, refused}
use Rattle.sql_text.proofs.Whole.{made}
use Rattle.sql_text.proofs.files.recursive_of.Goals as goal

pub returns-in_err-expect-clause-found : goal.returns-in_err-expect-clause-found
returns-in_err-expect-clause-found c =
    let p = err_from_is_err_and c.from_residual.result c.from_residual.ensures.1 in
    rw (p.1, p.2) (refused m.With c.in_err-expect.ensures.found)

pub returns-in_err-expect-2-clause-found : goal.returns-in_err-expect-2-clause-found
returns-in_err-expect-2-clause-found c =
    let p = err_from_is_err_and c.from_residual-in_err-expect-2.result c.from_residual-in_err-expect-2.ensures.1 in
    rw (p.1, p.2) (eaten m.With c.in_ok-expect.ensures.found (refused m.Recursive c.in_err-expect-2.ensures.found))

pub returns-in_err-name-clause-found : goal.returns-in_err-name-clause-found
returns-in_err-name-clause-found c =
    let p = err_from_is_err_and c.from_residual-in_err-name.result c.from_residual-in_err-name.ensures.1 in
    rw (p.1, p.2) (eaten m.With c.in_ok-expect.ensures.found (eaten m.Recursive c.in_ok-expect-2.ensures.found (not_wanted name_in _ c.in_err-name.field-0.0 c.in_err-name.ensures.found)))

pub returns-in_err-expect-3-clause-found : goal.returns-in_err-expect-3-clause-found
returns-in_err-expect-3-clause-found c =
    let p = err_from_is_err_and c.from_residual-in_err-expect-3.result c.from_residual-in_err-expect-3.ensures.1 in
    rw (p.1, p.2) (eaten m.With c.in_ok-expect.ensures.found (eaten m.Recursive c.in_ok-expect-2.ensures.found (wanted name_in _ c.in_ok-name.ensures.found c.in_ok-name.ensures.rest (refused m.Open c.in_err-expect-3.ensures.found))))

pub returns-in_err-columns-clause-found : goal.returns-in_err-columns-clause-found
returns-in_err-columns-clause-found c =
    let p = err_from_is_err_and c.from_residual-in_err-columns.result c.from_residual-in_err-columns.ensures.1 in
    rw (p.1, p.2) (eaten m.With c.in_ok-expect.ensures.found (eaten m.Recursive c.in_ok-expect-2.ensures.found (wanted name_in _ c.in_ok-name.ensures.found c.in_ok-name.ensures.rest (eaten m.Open c.in_ok-expect-3.ensures.found (read_no c.in_err-columns.ensures.found)))))

pub returns-in_err-expect-4-clause-found : goal.returns-in_err-expect-4-clause-found
returns-in_err-expect-4-clause-found c =
    let p = err_from_is_err_and c.from_residual-in_err-expect-4.result c.from_residual-in_err-expect-4.ensures.1 in
    rw (p.1, p.2) (eaten m.With c.in_ok-expect.ensures.found (eaten m.Recursive c.in_ok-expect-2.ensures.found (wanted name_in _ c.in_ok-name.ensures.found c.in_ok-name.ensures.rest (eaten m.Open c.in_ok-expect-3.ensures.found (read_on c.in_ok-columns.ensures.found (refused m.Close c.in_err-expect-4.ensures.found))))))

pub returns-in_err-expect-5-clause-found : goal.returns-in_err-expect-5-clause-found
returns-in_err-expect-5-clause-found c =
    let p = err_from_is_err_and c.from_residual-in_err-expect-5.result c.from_residual-in_err-expect-5.ensures.1 in
    rw (p.1, p.2) (eaten m.With c.in_ok-expect.ensures.found (eaten m.Recursive c.in_ok-expect-2.ensures.found (wanted name_in _ c.in_ok-name.ensures.found c.in_ok-name.ensures.rest (eaten m.Open c.in_ok-expect-3.ensures.found (read_on c.in_ok-columns.ensures.found (eaten m.Close c.in_ok-expect-4.ensures.found (refused m.As c.in_err-expect-5.ensures.found)))))))

pub returns-in_err-expect-6-clause-found : goal.returns-in_err-expect-6-clause-found
returns-in_err-expect-6-clause-found c =
    let p = err_from_is_err_and c.from_residual-in_err-expect-6.result c.from_residual-in_err-expect-6.ensures.1 in
    rw (p.1, p.2) (eaten m.With c.in_ok-expect.ensures.found (eaten m.Recursive c.in_ok-expect-2.ensures.found (wanted name_in _ c.in_ok-name.ensures.found c.in_ok-name.ensures.rest (eaten m.Open c.in_ok-expect-3.ensures.found (read_on c.in_ok-columns.ensures.found (eaten m.Close c.in_ok-expect-4.ensures.found (eaten m.As c.in_ok-expect-5.ensures.found (refused m.Open c.in_err-expect-6.ensures.found))))))))

pub returns-in_err-selects-clause-found : goal.returns-in_err-selects-clause-found
returns-in_err-selects-clause-found c =
    let p = err_from_is_err_and c.from_residual-in_err-selects.result c.from_residual-in_err-selects.ensures.1 in
    rw (p.1, p.2) (eaten m.With c.in_ok-expect.ensures.found (eaten m.Recursive c.in_ok-expect-2.ensures.found (wanted name_in _ c.in_ok-name.ensures.found c.in_ok-name.ensures.rest (eaten m.Open c.in_ok-expect-3.ensures.found (read_on c.in_ok-columns.ensures.found (eaten m.Close c.in_ok-expect-4.ensures.found (eaten m.As c.in_ok-expect-5.ensures.found (eaten m.Open c.in_ok-expect-6.ensures.found (read_no c.in_err-selects.ensures.found)))))))))

pub returns-in_err-expect-7-clause-found : goal.returns-in_err-expect-7-clause-found
returns-in_err-expect-7-clause-found c =
    let p = err_from_is_err_and c.from_residual-in_err-expect-7.result c.from_residual-in_err-expect-7.ensures.1 in
    rw (p.1, p.2) (eaten m.With c.in_ok-expect.ensures.found (eaten m.Recursive c.in_ok-expect-2.ensures.found (wanted name_in _ c.in_ok-name.ensures.found c.in_ok-name.ensures.rest (eaten m.Open c.in_ok-expect-3.ensures.found (read_on c.in_ok-columns.ensures.found (eaten m.Close c.in_ok-expect-4.ensures.found (eaten m.As c.in_ok-expect-5.ensures.found (eaten m.Open c.in_ok-expect-6.ensures.found (read_on c.in_ok-selects.ensures.found (refused m.Close c.in_err-expect-7.ensures.found))))))))))

pub returns-clause-found : goal.returns-clause-found
returns-clause-found c = eaten m.With c.in_ok-expect.ensures.found (eaten m.Recursive c.in_ok-expect-2.ensures.found (wanted name_in _ c.in_ok-name.ensures.found c.in_ok-name.ensures.rest (eaten m.Open c.in_ok-expect-3.ensures.found (read_on c.in_ok-columns.ensures.found (eaten m.Close c.in_ok-expect-4.ensures.found (eaten m.As c.in_ok-expect-5.ensures.found (eaten m.Open c.in_ok-expect-6.ensures.found (read_on c.in_ok-selects.ensures.found (eaten m.Close c.in_ok-expect-7.ensures.found (made _ _ _ c.recursive_with.ensures))))))))))
