use Rattle.std.proofs.Common.{ap, inl, inr, refl, [], string_bytes}
use Rattle.std.proofs.lemmas.Result.{err_from_is_err_and}
use Rattle.away_top.proofs.batch.over_place.Goals as goal

pub returns-in-Ok : goal.returns-in-Ok
returns-in-Ok c = (
  string_bytes c.in-Ok.batch.text,
  inl (record { query = c.in-Ok.batch.query; batch = c.in-Ok.ensures.batch; answers = c.in-Ok.ensures.answers }, (refl, ap (λ v. v.items) c.into_bytes.ensures.value)),
)

pub returns-in_err-refused-in-Err-Shape : goal.returns-in_err-refused-in-Err-Shape
returns-in_err-refused-in-Err-Shape c =
    let p = err_from_is_err_and c.from_residual-in_err-refused-in-Err-Shape.result c.from_residual-in_err-refused-in-Err-Shape.ensures.1 in
    rw (p.1, p.2) ([], tt)

pub returns-in-Err-Shape : goal.returns-in-Err-Shape
returns-in-Err-Shape c =
    let ending = c.in_ok-refused-in-Err-Shape.ensures in
    ([], inr (c.in-Err-Shape.ensures.shape c.in-Err-Shape.field-0-is, (ending.status_is, ending.output_is)))
