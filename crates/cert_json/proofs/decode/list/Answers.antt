use Rattle.std.proofs.Common.{map, arith}
use Rattle.std.proofs.lemmas.Result.{err_from_is_err_and}
use Rattle.serde_json.specs.View.{view}
use Rattle.cert_json.proofs.Lists.{many_fails, many_is, read_end, read_fails, read_more}
use Rattle.cert_json.proofs.decode.list.Goals as goal

pub returns-in_err-decode : goal.returns-in_err-decode
returns-in_err-decode g c =
    let p = err_from_is_err_and c.from_residual-in_err-decode.result c.from_residual-in_err-decode.ensures.1 in
    let f = g.T.Decode.spelled in
    let vs = c.in_ok-item-items.item-items.now in
    let bad = read_fails f vs c.loop-item.item-index c.loop-item.all c.item-item.result c.in_err-decode.field-0.0 (omega (arith, c.loop-item-test.true)) c.item-item.is c.loop-item.invariant c.in_err-decode.ensures in
    rw (p.1, p.2) (many_fails f (view c.args.value.now) (map view vs) c.in_err-decode.field-0.0 c.in_ok-item-items.ensures bad)

pub loop-item-preserved : goal.loop-item-preserved
loop-item-preserved g c =
    read_more g.T.Decode.spelled c.in_ok-item-items.item-items.now c.loop-item.item-index c.loop-item.all _ c.item-item.result c.in_ok-decode.field-0
    (omega (arith, c.loop-item-test.true)) c.item-item.is c.loop-item.invariant c.in_ok-decode.ensures c.in_ok-push.ensures.ok

pub returns : goal.returns
returns g c =
    let f = g.T.Decode.spelled in
    let vs = c.in_ok-item-items.item-items.now in
    many_is f (view c.args.value.now) (map view vs) c.loop-item.all c.in_ok-item-items.ensures
    (read_end f vs c.loop-item.item-index c.loop-item.all (omega (arith, c.loop-item-test.false)) c.loop-item.invariant)
