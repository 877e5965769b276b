use Rattle.std.proofs.Common.{◌≡◌, Some, subst, arith}
use Rattle.std.specs.List.{AllByRecursion}
use Rattle.cert_json.proofs.ListsAgain.{many_again, written_again}
use Rattle.cert_json.proofs.encode.many.Goals as goal

pub returns-clause-reads : goal.returns-clause-reads
returns-clause-reads g c =
    let json = g.T.Encode.json in
    let S = g.T.Encode.has_spelling in
    let f = g.T.Decode.spelled in
    let all = written_again json (λ x. S x → f (json x) ≡ Some x) c.as_slice-item-items.result.now c.loop-item.item-index c.loop-item.all.items (omega (arith, c.loop-item-test.false)) c.loop-item.invariant in
    λ s. many_again f json S c.args.items.now (subst (AllByRecursion (λ x. S x → f (json x) ≡ Some x)) c.as_slice-item-items.ensures all) s
