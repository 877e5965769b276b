use Rattle.std.proofs.Common.{subst, sym}
use Rattle.plsql_parse.specs.Refusals.{Refuses}
use Rattle.tail_calls.specs.Untailed.{ReadsWithin}
use Rattle.tail_calls.proofs.written.read_again.Goals as goal

pub returns-in_ok-boxed-in-Ok-clause-ok : goal.returns-in_ok-boxed-in-Ok-clause-ok
returns-in_ok-boxed-in-Ok-clause-ok c =
    let h = c.in-Ok.ensures.ok in
    let of_bytes : ReadsWithin c.as_bytes.result.now c.in-Ok.f = record { may_be_read = h.0; reads = h.1; within_limits = h.2 } in
    subst (λ f. ReadsWithin c.args.text.now f) (sym c.in_ok-boxed-in-Ok.ensures) (subst (λ z. ReadsWithin z c.in-Ok.f) c.as_bytes.ensures.value of_bytes)

pub returns-in-Err-clause-err : goal.returns-in-Err-clause-err
returns-in-Err-clause-err c = c.outgrown.ensures c.args.text.now (subst (λ z. Refuses z c.in-Err.error) c.as_bytes.ensures.value c.in-Err.ensures.err)
