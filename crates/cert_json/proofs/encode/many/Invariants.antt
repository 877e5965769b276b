use Rattle.std.proofs.Common.{◌≡◌, Some}
use Rattle.cert_json.proofs.ListsAgain.{WrittenTo}
use Rattle.cert_json.proofs.encode.many.Given as goal

abbrev pub invariant-loop-item : goal.invariant-loop-item
invariant-loop-item g l =
    let json = g.T.Encode.json in
    WrittenTo json (λ x. g.T.Encode.has_spelling x → g.T.Decode.spelled (json x) ≡ Some x) l.item-items l.item-index l.all.items
