use Rattle.std.proofs.Common.{subst}
use Rattle.std.proofs.lemmas.Result.{err_from_is_err_and}
use Rattle.expanding.specs.Expanded.{RefusesLength}
use Rattle.expanding.proofs.Texts.{length_refused}
use Rattle.tail_calls.specs.Untailed.{IsFileOf}
use Rattle.expanding.proofs.written.expand.Goals as goal

pub returns-clause-ok : goal.returns-clause-ok
returns-clause-ok c = record {
  sizes = c.in_ok-keeps_sizes.ensures.ok;
  text_of = c.in_ok-text.ensures;
  written = c.in_ok-written.written;
  file = subst (λ z. IsFileOf z c.in_ok-written.written) c.as_str.ensures.value c.in_ok-written.ensures.ok;
  answers = c.in_ok-checked.ensures;
}

pub returns-in_err-written-clause-err : goal.returns-in_err-written-clause-err
returns-in_err-written-clause-err c =
    let error = c.in_err-written.field-0.0 in
    let p = err_from_is_err_and c.from_residual-in_err-written.result c.from_residual-in_err-written.ensures.1 in
    rw (p.1, p.2) (length_refused c.args.s.now.schema c.args.fs.now _ error c.in_ok-keeps_sizes.ensures.ok c.in_ok-text.ensures
    (subst (λ text. RefusesLength text error) c.as_str.ensures.value c.in_err-written.ensures.err))
