use Rattle.std.proofs.Common.{rules, get_or, arith}
use Rattle.std.specs.Prelude.{slice_get}
use Rattle.call_forms.specs.Columned.{HasType, type_of_name}
use Rattle.block_forms.proofs.Pairs.{pairs_more, pairs_all, pair_refutes}
use Rattle.block_forms.proofs.Verdicts.{passed}
use Rattle.call_check.proofs.Seeking.{own_default}
use Rattle.call_check.proofs.columns.all_typed.Goals as goal

pub loop-i-preserved : goal.loop-i-preserved
loop-i-preserved c =
    pairs_more (λ i p q. HasType (type_of_name c.args.slots.now c.args.names.now p) (slice_get c.args.columns.now q)) c.args.params.now c.args.places.now c.loop-i.i (get_or c.args.params.now c.loop-i.i 0) (get_or c.args.places.now c.loop-i.i 0) (own_default c.args.params.now c.loop-i.i 0 c.loop-i-test.true) (own_default c.args.places.now c.loop-i.i 0 (omega (arith, c.requires, c.loop-i-test.true))) c.loop-i.invariant
    (passed c.is_typed.result c.if-not-is_typed.false c.is_typed.ensures)

pub returns-then-not-is_typed : goal.returns-then-not-is_typed
returns-then-not-is_typed c =
    pair_refutes (λ i p q. HasType (type_of_name c.args.slots.now c.args.names.now p) (slice_get c.args.columns.now q)) c.args.params.now c.args.places.now c.loop-i.i (get_or c.args.params.now c.loop-i.i 0) (get_or c.args.places.now c.loop-i.i 0) c.is_typed.result c.loop-i-test.true c.requires
    (own_default c.args.params.now c.loop-i.i 0 c.loop-i-test.true) (own_default c.args.places.now c.loop-i.i 0 (omega (arith, c.requires, c.loop-i-test.true))) c.if-not-is_typed.true c.is_typed.ensures

pub returns : goal.returns
returns c = (
  λ t. pairs_all (λ i p q. HasType (type_of_name c.args.slots.now c.args.names.now p) (slice_get c.args.columns.now q)) c.args.params.now c.args.places.now c.loop-i.i c.loop-i-test.false c.loop-i.invariant,
  λ each. search rules,
)
