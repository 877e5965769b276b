use Rattle.std.proofs.Common.{refl}
use Rattle.std.proofs.lemmas.Result.{err_from_is_err_and}
use Rattle.sql_text.specs.TerminalKinds.{test_in}
use Rattle.sql_text.proofs.Steps.{finished, wanted, not_wanted}
use Rattle.sql_text.proofs.Cases.{test_on}
use Rattle.sql_text.proofs.expressions.test_of.Goals as goal

pub returns-in_err-test-clause-found : goal.returns-in_err-test-clause-found
returns-in_err-test-clause-found c =
    let p = err_from_is_err_and c.from_residual.result c.from_residual.ensures.1 in
    rw (p.1, p.2) (test_on _ _ _ _ _ _ c.eat-negated.ensures.yes c.eat-negated.ensures.no (not_wanted test_in _ c.in_err-test.field-0.0 c.in_err-test.ensures.found))

pub returns-clause-found : goal.returns-clause-found
returns-clause-found c = test_on _ _ _ _ _ _ c.eat-negated.ensures.yes c.eat-negated.ensures.no (wanted test_in _ c.in_ok-test.ensures.found c.in_ok-test.ensures.rest (finished refl))
