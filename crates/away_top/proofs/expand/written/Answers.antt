use Rattle.std.proofs.Common.{ap, inl, inr, refl, [], string_bytes, subst}
use Rattle.std.proofs.lemmas.Result.{err_from_is_err_and}
use Rattle.expanding.specs.Expanded.{Refuses}
use Rattle.away_top.specs.Lines.{growth_rule}
use Rattle.away_top.proofs.expand.written.Goals as goal

pub returns-in-Ok : goal.returns-in-Ok
returns-in-Ok c = (
  string_bytes c.in-Ok.expanded.text,
  inl (record { checked = c.in-Ok.expanded.checked.function; slots = c.in-Ok.expanded.checked.slots; expanded = c.in-Ok.ensures.ok }, (refl, ap (λ v. v.items) c.into_bytes.ensures.value)),
)

pub returns-in_err-refused_growth-in-Err-Limit : goal.returns-in_err-refused_growth-in-Err-Limit
returns-in_err-refused_growth-in-Err-Limit c =
    let p = err_from_is_err_and c.from_residual.result c.from_residual.ensures.1 in
    rw (p.1, p.2) ([], tt)

pub returns-in_ok-refused_growth-in-Err-Limit : goal.returns-in_ok-refused_growth-in-Err-Limit
returns-in_ok-refused_growth-in-Err-Limit c =
    let ending = c.in_ok-refused_growth-in-Err-Limit.ensures in
    let refuses = subst (Refuses c.args.tables.now.schema c.args.fs.now) c.in-Err-Limit.field-0-is c.in-Err-Limit.ensures.err in
    ([], inr (growth_rule c.in-Err-Limit.which c.in-Err-Limit.found, (c.in-Err-Limit.which, (c.in-Err-Limit.found, refuses, refl)), (ending.status_is, ending.output_is)))
