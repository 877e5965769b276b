use Rattle.cert_json.proofs.Lists.{ReadTo}
use Rattle.cert_json.proofs.decode.list.Given as goal

abbrev pub invariant-loop-item : goal.invariant-loop-item
invariant-loop-item g l = ReadTo g.T.Decode.spelled l.item-items l.item-index l.all
