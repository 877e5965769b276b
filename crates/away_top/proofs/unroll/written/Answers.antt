use Rattle.std.proofs.Common.{ap, refl, [], string_bytes}
use Rattle.std.proofs.lemmas.Result.{err_from_is_err_and}
use Rattle.away_top.proofs.unroll.written.Goals as goal

pub returns-in_err-made : goal.returns-in_err-made
returns-in_err-made c =
    let p = err_from_is_err_and c.from_residual.result c.from_residual.ensures.1 in
    rw (p.1, p.2) ([], tt)

pub returns : goal.returns
returns c = (
  string_bytes c.in_ok-made.made.text,
  (record { query = c.in_ok-made.made.query; unrolled = c.in_ok-made.ensures.unrolled; equivalent = c.in_ok-made.ensures.equivalent }, (refl, ap (λ v. v.items) c.into_bytes.ensures.value)),
)
